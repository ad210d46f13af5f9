-- The faults of a file before its rows.
use Rattle.std.proofs.Common.{◌≡◌, refl, sym, Bool, Option, Some, None}
use Rattle.std.specs.Option.{option_or}
use Rattle.feed_files.specs.declared.names.FileName.{FileName}
use Rattle.feed_files.specs.HeldFiles.{HeldFile}
use Rattle.feed_faults.specs.FeedTables.{table_of}
use Rattle.feed_faults.specs.FormFaults.{form_fault_of_held, form_fault_of_rows}
use Rattle.feed_tables.specs.RowNumbers.{held_fault_before_rows}

or_none : {X : Type 0} (o : Option X) → option_or o None ≡ o
or_none None = refl
or_none (Some x) = refl

-- a file's fault is that which is found before its rows, or else that of its rows
pub held_both : (needed : Bool) (name : FileName) (held : HeldFile)
    → form_fault_of_held needed name held ≡ option_or (held_fault_before_rows needed name held) (form_fault_of_rows name (table_of held))
unfolding form_fault_of_rows
held_both needed name HeldFile.Missing = sym (or_none (form_fault_of_held needed name HeldFile.Missing))
held_both needed name HeldFile.TooLarge = refl
held_both needed name (HeldFile.Bytes bytes) = refl
