use Rattle.std.proofs.Common.{◌≡◌, None, map, take}
use Rattle.plain_laws.proofs.Laws.{at_item}
use Rattle.plain_laws.specs.Plain.{first_below}
use Rattle.feed_faults.specs.FormFaults.{fault_of_field}
use Rattle.feed_text.specs.FieldNumbers.{field_number}
use Rattle.feed_text.proofs.fields.read_fields.Given as goal

abbrev pub invariant-loop-i : goal.invariant-loop-i
invariant-loop-i g l = record {
  none : first_below l.i (at_item l.rules (fault_of_field l.file l.row (g.F.Fields.at l.fields))) ≡ None;
  numbers : l.numbers.items ≡ map (field_number (g.F.Fields.at l.fields)) (take l.i l.rules);
}
