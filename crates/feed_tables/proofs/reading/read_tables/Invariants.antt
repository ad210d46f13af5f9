use Rattle.std.proofs.Common.{◌≡◌, ℕ, ◌+◌, None, take, map}
use Rattle.plain_laws.proofs.Laws.{at_item}
use Rattle.plain_laws.specs.Plain.{first_below}
use Rattle.feed_faults.specs.FormFaults.{form_fault}
use Rattle.folder_io.specs.KeptFiles.{held_in, AreWithin}
use Rattle.feed_tables.specs.RowNumbers.{read_of, StandFrom}
use Rattle.feed_tables.specs.LeftFiles.{AreLeft}
use Rattle.feed_tables.proofs.reading.read_tables.Given as goal

abbrev pub invariant-loop-i : goal.invariant-loop-i
invariant-loop-i l = record {
  tables : l.tables.items ≡ map (read_of (held_in l.fn.files)) (take l.i l.names);
  none : first_below l.i (at_item l.names (form_fault (held_in l.fn.files))) ≡ None;
  left : (n : ℕ) → StandFrom n l.names → AreLeft l.fn.files l.files (n + l.i);
  within : AreWithin l.files;
}
