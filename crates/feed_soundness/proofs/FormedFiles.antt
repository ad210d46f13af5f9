-- What the first pass says of a file in which it finds no fault.
use Rattle.std.proofs.Common.{◌≡◌, refl, ◌∙◌, ap, ℕ, ◌<◌, ◌≤◌, Bool, true, false, List, [], length, arith}
use Rattle.std.specs.Prelude.{map, Some, None, slice_get, nat_lt, not, option_map}
use Rattle.std.proofs.lemmas.Bool.Decides.{nat_tests}
use Rattle.std.proofs.lemmas.Option.{slice_get-map, get_or_from_slice_get}
use Rattle.std.specs.Str.{is_utf8}
use Rattle.feed_rows.specs.Limits.{most_rows}
use Rattle.feed_files.specs.declared.names.FileName.{FileName}
use Rattle.feed_files.specs.declared.names.FileName.TheVariants as file
use Rattle.feed_files.specs.declared.faults.FaultKind.TheVariants as kind
use Rattle.feed_files.specs.Names.{all_files, place}
use Rattle.feed_files.specs.HeldFiles.{HeldFile}
use Rattle.plain_laws.specs.Plain.{when, first_in}
use Rattle.feed_faults.specs.declared.columns.ColumnRule.{ColumnRule}
use Rattle.feed_faults.specs.Records.{FileTable, table_of_bytes, row_count, field, is_long}
use Rattle.feed_faults.specs.FaultPlaces.{file_fault, row_fault, field_fault}
use Rattle.feed_faults.specs.FormFaults.{field_misfit, judged_columns, form_fault_of_row, form_fault_of_rows, form_fault_of_table, form_fault_of_bytes, form_fault_of_held, is_needed, form_fault, header_fault, first_form_fault}
use Rattle.feed_faults.specs.FeedTables.{table_in, table_of, tables_of}
use Rattle.feed_soundness.specs.AcceptedTables.{IsFormed, AreFormed}
use Rattle.plain_laws.proofs.Laws.{none_either, none_below, none_in, none_when, none_map}

-- a row without a fault
row_formed : (file : FileName) (table : FileTable) (row k : ℕ) (rule : ColumnRule) → form_fault_of_row file table row ≡ None → slice_get (judged_columns file (field table row)) k ≡ Some rule → field_misfit (field table row) rule ≡ None
unfolding form_fault_of_row
row_formed file table row k rule none at =
    let columns = (none_either (when (is_long table row) (row_fault file row kind.LongRow)) (first_in (judged_columns file (field table row)) (λ rule. option_map (field_fault file row rule.name) (field_misfit (field table row) rule))) none).1 in
    none_map (field_fault file row rule.name) (field_misfit (field table row) rule) (none_in (judged_columns file (field table row)) (λ rule. option_map (field_fault file row rule.name) (field_misfit (field table row) rule)) k rule columns at)

-- the rows without a fault
rows_formed : (file : FileName) (table : FileTable) (row k : ℕ) (rule : ColumnRule) → form_fault_of_rows file table ≡ None → row < row_count table → slice_get (judged_columns file (field table row)) k ≡ Some rule → field_misfit (field table row) rule ≡ None
unfolding form_fault_of_rows
rows_formed file table row k rule none lt at = row_formed file table row k rule (none_below (form_fault_of_row file table) (row_count table) row none lt) at

-- a table without a fault before its rows
table_few : (needed : Bool) (most : ℕ) (file : FileName) (table : FileTable) → form_fault_of_table needed most file table ≡ None → row_count table ≤ most
unfolding form_fault_of_table
table_few needed most file table none = step (nat_lt 0 (length table)) refl
  where
    step : (b : Bool) → nat_lt 0 (length table) ≡ b → row_count table ≤ most
    step true e =
        let both = none_either (when (nat_lt most (row_count table)) (file_fault file kind.TooManyRows)) (header_fault file table) (rw e at none) in
        let few = none_when (nat_lt most (row_count table)) (file_fault file kind.TooManyRows) both.0 in
        grind (arith, nat_tests)
    step false e = let none : length table ≤ 0 = grind (arith, nat_tests) in omega arith

bytes_few : (needed : Bool) (most : ℕ) (file : FileName) (bytes : List ℕ) → form_fault_of_bytes needed most file bytes ≡ None → row_count (table_of_bytes bytes) ≤ most
unfolding form_fault_of_bytes
bytes_few needed most file bytes none =
    table_few needed most file (table_of_bytes bytes) (none_either (when (not (is_utf8 bytes)) (file_fault file kind.NotUtf8)) (form_fault_of_table needed most file (table_of_bytes bytes)) none).1

-- a file without a fault is formed
held_formed : (needed : Bool) (file : FileName) (held : HeldFile) → form_fault_of_held needed file held ≡ None → IsFormed file (table_of held)
held_formed needed file HeldFile.Missing none = record { few = omega arith; fields = λ row k rule lt at. absurd (omega arith) }
held_formed needed file HeldFile.TooLarge none = absurd (cc)
held_formed needed file (HeldFile.Bytes bytes) none =
    let both = none_either (form_fault_of_bytes needed most_rows file bytes) (form_fault_of_rows file (table_of_bytes bytes)) none in
    record {
      few = bytes_few needed most_rows file bytes both.0;
      fields = λ row k rule lt at. rows_formed file (table_of_bytes bytes) row k rule both.1 lt at;
    }

file_formed : (files : FileName → HeldFile) (file : FileName) → form_fault files file ≡ None → IsFormed file (table_of (files file))
unfolding form_fault
file_formed files file none = held_formed (is_needed files file) file (files file) none

-- each file stands in its place
pub placed : (name : FileName) → slice_get all_files (place name) ≡ Some name
placed file.Stops = refl
placed name = refl

-- and its table is that of the file as it is held
pub table_in-tables_of : (files : FileName → HeldFile) (name : FileName) → table_in (tables_of files) name ≡ table_of (files name)
unfolding tables_of
table_in-tables_of files name =
    let held : FileName → FileTable = λ file. table_of (files file) in
    get_or_from_slice_get (map held all_files) (place name) (held name) [] (slice_get-map held all_files (place name) ∙ ap (option_map held) (placed name))

-- where the first pass finds no fault, all files are formed
pub formed : (files : FileName → HeldFile) → first_form_fault files ≡ None → AreFormed (tables_of files)
unfolding first_form_fault
formed files none name =
    rw table_in-tables_of (file_formed files name (none_in all_files (form_fault files) (place name) name none (placed name)))
