use Rattle.std.proofs.Common.{◌≡◌}
use Rattle.std.specs.Prelude.{Some, option_and_then, slice_get}
use Rattle.feed_rows.specs.RoundTables.{entry_of_final}
use Rattle.plain_laws.specs.Plain.{collect_below}
use Rattle.round_table.specs.Finals.{finals_of}
use Rattle.round_table.specs.Tables.{table_by}
use Rattle.round_table.proofs.table.RoundTable.entries.Given as goal

abbrev pub invariant-loop-number : goal.invariant-loop-number
invariant-loop-number l = collect_below l.number (λ i. option_and_then (entry_of_final (table_by l.self)) (slice_get (finals_of l.finals) i)) ≡ Some l.entries.items
