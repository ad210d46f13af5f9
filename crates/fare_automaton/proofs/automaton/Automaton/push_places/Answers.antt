-- One row more.
use Rattle.std.proofs.Common.{sym}
use Rattle.std.proofs.lemmas.List.{append-nil}
use Rattle.fare_transfer_rules.specs.declared.groups.ClassedRow.{ClassedRow}
use Rattle.fare_transfer_rules.specs.Changes.{asked_of}
use Rattle.fare_automaton.specs.Options.{chosen_places}
use Rattle.fare_automaton.proofs.AddedLaws.{flat_added, flat_whole}
use Rattle.fare_automaton.proofs.automaton.Automaton.push_places.Goals as goal

pub loop-classed-init : goal.loop-classed-init
loop-classed-init c = sym (append-nil c.args.places.now.items)

pub loop-classed-preserved : goal.loop-classed-preserved
loop-classed-preserved c =
    flat_added
    (λ (r : ClassedRow). chosen_places c.args.self.now.feed c.args.self.now.buyer (asked_of c.args.change.now) c.args.least r.row)
    c.args.among.now c.loop-classed.classed-index _ _ _ _ c.loop-classed-test.true c.loop-classed.invariant
    c.in_ok-push_chosen.ensures

pub returns : goal.returns
returns c =
    flat_whole (λ (r : ClassedRow). chosen_places c.args.self.now.feed c.args.self.now.buyer (asked_of c.args.change.now) c.args.least r.row)
    c.args.among.now c.loop-classed.classed-index _ _ c.loop-classed-test.false c.loop-classed.invariant
