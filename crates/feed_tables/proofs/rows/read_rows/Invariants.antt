use Rattle.std.proofs.Common.{◌≡◌, None}
use Rattle.plain_laws.specs.Plain.{first_below, list_below}
use Rattle.feed_faults.specs.Records.{field}
use Rattle.feed_faults.specs.FormFaults.{form_fault_of_row}
use Rattle.feed_text.specs.FieldNumbers.{numbers_of}
use Rattle.feed_tables.proofs.rows.read_rows.Given as goal

abbrev pub invariant-loop-row : goal.invariant-loop-row
invariant-loop-row l = record {
  none : first_below l.row (form_fault_of_row l.file l.table) ≡ None;
  rows : l.rows ≡ list_below l.row (λ row. numbers_of l.file (field l.table row));
}
