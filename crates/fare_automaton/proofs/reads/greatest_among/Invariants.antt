-- Of the rows so far, the greatest.
use Rattle.std.proofs.Common.{◌≡◌, take}
use Rattle.std.specs.Prelude.{fold, map, max}
use Rattle.fare_transfer_rules.specs.declared.groups.ClassedRow.{ClassedRow}
use Rattle.fare_automaton.specs.Compiled.{count_at}
use Rattle.fare_automaton.proofs.reads.greatest_among.Given as goal

abbrev pub invariant-loop-classed : goal.invariant-loop-classed
invariant-loop-classed l = l.greatest ≡ fold max 0 (map (λ (r : ClassedRow). count_at l.rows r.row) (take l.classed-index l.among))
