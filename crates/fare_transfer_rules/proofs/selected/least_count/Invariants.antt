-- The least count of the rows so far.
use Rattle.std.proofs.Common.{take}
use Rattle.fare_transfer_rules.specs.Changes.{asked_of}
use Rattle.fare_transfer_rules.specs.Fits.{AreLeast}
use Rattle.fare_transfer_rules.proofs.selected.least_count.Given as goal

abbrev pub invariant-loop-classed : goal.invariant-loop-classed
invariant-loop-classed l = AreLeast l.rules (asked_of l.change) (take l.classed-index l.among) l.least
