use Rattle.std.proofs.Common.{◌≡◌, ◌++◌, take}
use Rattle.fare_transfer_rules.specs.Changes.{asked_of}
use Rattle.fare_transfer_rules.specs.Fits.{chosen_among}
use Rattle.fare_transfer_rules.proofs.XferRules.push_chosen.Given as goal

abbrev pub invariant-loop-classed : goal.invariant-loop-classed
invariant-loop-classed l =
    l.rows.items ≡ l.fn.rows.items ++ chosen_among l.self.rules.items (asked_of l.change) l.least (take l.classed-index l.among)
