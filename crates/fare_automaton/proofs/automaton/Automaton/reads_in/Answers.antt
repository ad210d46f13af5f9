-- The greatest count of a sound feed is low.
use Rattle.std.proofs.Common.{◌≡◌, ap, arith}
use Rattle.feed_rows.specs.FareStates.{greatest_count}
use Rattle.fare_automaton.specs.declared.reads.GroupReads.{GroupReads}
use Rattle.fare_laws.proofs.MoveLaws.{greatest_count-low}
use Rattle.fare_automaton.proofs.automaton.Automaton.reads_in.Goals as goal

pub returns-in-Some-clause-low : goal.returns-in-Some-clause-low
returns-in-Some-clause-low c =
    let feed = c.args.self.now.feed in
    let known = greatest_count-low feed c.in-Some.own c.feed-feed.ensures.sound.transfer_rules in
    let is : c.reads.result.greatest_count ≡ greatest_count feed c.in-Some.own =
    ap (λ (r : GroupReads). r.greatest_count) c.reads.ensures in
    omega (arith, known, is)
