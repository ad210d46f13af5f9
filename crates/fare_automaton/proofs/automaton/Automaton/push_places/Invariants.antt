-- What is added so far.
use Rattle.std.proofs.Common.{◌≡◌, ◌++◌, take}
use Rattle.std.specs.Prelude.{flat_map}
use Rattle.fare_transfer_rules.specs.declared.groups.ClassedRow.{ClassedRow}
use Rattle.fare_transfer_rules.specs.Changes.{asked_of}
use Rattle.fare_automaton.specs.Options.{chosen_places}
use Rattle.fare_automaton.proofs.automaton.Automaton.push_places.Given as goal

abbrev pub invariant-loop-classed : goal.invariant-loop-classed
invariant-loop-classed l =
    l.places.items
    ≡ l.fn.places.items ++ flat_map (λ (r : ClassedRow). chosen_places l.self.feed l.self.buyer (asked_of l.change) l.least r.row) (take l.classed-index l.among)
