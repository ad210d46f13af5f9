-- The state by its parts.
use Rattle.fare_automaton.specs.Changes.{leg_of}
use Rattle.fare_automaton.proofs.StateLaws.{state_is}
use Rattle.fare_automaton.proofs.automaton.Automaton.next_state.Goals as goal

pub returns : goal.returns
returns c =
    state_is c.args.self.now.feed c.args.state.now (leg_of c.args.next.now) c.args.place c.goes_on-goes_on.result
    c.reads_in-reads.result c.count_after.result c.clock_after.result c.clock_after-2.result c.is_none.result
    c.reads_in-reads.ensures.count c.reads_in-reads.ensures.departure c.reads_in-reads.ensures.arrival
    c.goes_on-goes_on.ensures c.count_after.ensures c.clock_after.ensures c.clock_after-2.ensures c.is_none.ensures
