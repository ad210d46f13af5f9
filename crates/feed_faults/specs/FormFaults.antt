-- The first pass: what is wrong with a file by itself. A file is judged as a whole, then by its header, then row by row,
-- and in a row column by column; the first fault counts.
use Rattle.std.specs.Prelude.{ℕ, ◌&&◌, ◌||◌, not, nat_lt, if◌then◌else◌, Bool, true, false, List, [], length, get_or, take, bytes_eq, is_some, is_none, Option, None, Some, option_map, pos}
use Rattle.std.specs.Option.{option_or}
use Rattle.std.specs.Str.{is_utf8}
use Rattle.feed_rows.specs.Limits.{most_rows}
use Rattle.feed_files.specs.declared.names.FileName.{FileName}
use Rattle.feed_files.specs.declared.names.FileName.TheVariants as file
use Rattle.feed_files.specs.declared.names.ColumnName.{ColumnName}
use Rattle.feed_files.specs.declared.names.ColumnName.TheVariants as column
use Rattle.feed_files.specs.declared.faults.FaultKind.{FaultKind}
use Rattle.feed_files.specs.declared.faults.FaultKind.TheVariants as kind
use Rattle.feed_files.specs.declared.faults.FeedFault.{FeedFault}
use Rattle.feed_files.specs.Names.{all_files, column_text}
use Rattle.plain_laws.specs.Plain.{when, any_below, first_below, first_in}
use Rattle.feed_files.specs.HeldFiles.{HeldFile}
use Rattle.feed_faults.specs.declared.columns.EmptyField.{EmptyField}
use Rattle.feed_faults.specs.declared.columns.EmptyField.TheVariants as empty
use Rattle.feed_faults.specs.declared.columns.ColumnRule.{ColumnRule}
use Rattle.feed_faults.specs.Records.{FileTable, Fields, table_of_bytes, header, row_count, column_of, field, is_filled, is_long}
use Rattle.feed_faults.specs.FieldGrammars.{int_value}
use Rattle.feed_faults.specs.FileColumns.{is_always_needed, columns_of, fits, misfit}
use Rattle.feed_faults.specs.FaultPlaces.{file_fault, column_fault, row_fault, field_fault}

-- a column stands twice in a header
unfoldable pub is_twice : FileTable → ColumnName → Bool
is_twice table name =
    any_below (length (header table)) (λ later. bytes_eq (get_or (header table) later []) (column_text name)
    && any_below later (λ earlier. bytes_eq (get_or (header table) earlier []) (column_text name)))

-- a listed column stands twice (profile)
unfoldable pub doubled_column : FileName → FileTable → ColumnRule → Option FeedFault
doubled_column file table rule = when (is_twice table rule.name) (column_fault file rule.name kind.DoubledColumn)

-- a column must be there
abbrev pub is_needed_column : EmptyField → Bool
is_needed_column empty.Fine = false
is_needed_column empty.Fault = true
is_needed_column empty.FaultOrFlex = true

-- a column that must be there isn't (Field Definitions: Required)
unfoldable pub missing_column : FileName → FileTable → ColumnRule → Option FeedFault
missing_column file table rule =
    when (is_needed_column rule.empty && is_none (column_of table rule.name)) (column_fault file rule.name kind.MissingColumn)

-- the first fault of a header: every doubled column comes before every missing one
unfoldable pub header_fault : FileName → FileTable → Option FeedFault
header_fault file table =
    option_or (first_in (columns_of file) (doubled_column file table)) (first_in (columns_of file) (missing_column file table))

-- a stop time names a place of GTFS-Flex: a location group or a location
unfoldable pub names_flex_place : Fields → Bool
names_flex_place at = is_filled (at column.LocationGroupId) || is_filled (at column.LocationId)

-- what an empty field is: GTFS-Flex is out of scope, so a stop time without a stop is a fault either way
abbrev pub empty_misfit : Fields → EmptyField → Option FaultKind
empty_misfit at empty.Fine = None
empty_misfit at empty.Fault = Some kind.EmptyRequired
empty_misfit at empty.FaultOrFlex = Some (if names_flex_place at then kind.FlexRow else kind.EmptyRequired)

-- what is wrong with the field of a row in a column
unfoldable pub field_misfit : Fields → ColumnRule → Option FaultKind
field_misfit at rule =
    if is_filled (at rule.name)
    then when (not (fits rule.grammar (at column.Currency) (at rule.name))) (misfit rule.grammar)
    else empty_misfit at rule.empty

-- a row of transfers.txt is passed over: it is of type 4 or 5, or it names routes or trips (profile)
unfoldable pub is_passed_over : Fields → Bool
is_passed_over at =
    is_some (int_value (pos 4) (pos 5) (at column.TransferType))
    || is_filled (at column.FromRouteId) || is_filled (at column.ToRouteId)
    || is_filled (at column.FromTripId) || is_filled (at column.ToTripId)

-- the columns of a row that are judged: of a row that is passed over, the type alone
abbrev pub judged_columns : FileName → Fields → List ColumnRule
judged_columns file.Transfers at = if is_passed_over at then take 1 (columns_of file.Transfers) else columns_of file.Transfers
judged_columns file at = columns_of file

-- what is wrong with the field of a row in a column, as a fault
abbrev pub fault_of_field : FileName → ℕ → Fields → ColumnRule → Option FeedFault
fault_of_field file row at rule = option_map (field_fault file row rule.name) (field_misfit at rule)

-- the first fault of a row's fields, in the order of the columns
abbrev pub fault_of_fields : FileName → ℕ → Fields → Option FeedFault
fault_of_fields file row at = first_in (judged_columns file at) (fault_of_field file row at)

-- the first fault of a row: a field past the header, then the columns in order
unfoldable pub form_fault_of_row : FileName → FileTable → ℕ → Option FeedFault
form_fault_of_row file table row =
    option_or (when (is_long table row) (row_fault file row kind.LongRow)) (fault_of_fields file row (field table row))

-- the first fault of a table's rows
unfoldable pub form_fault_of_rows : FileName → FileTable → Option FeedFault
form_fault_of_rows file table = first_below (row_count table) (form_fault_of_row file table)

-- the first fault of a table before its rows, where it may have so many of them; a table without a record is a file that
-- isn't there (profile), and a fault where the file is needed
unfoldable pub form_fault_of_table : Bool → ℕ → FileName → FileTable → Option FeedFault
form_fault_of_table needed most file table =
    if nat_lt 0 (length table)
    then option_or (when (nat_lt most (row_count table)) (file_fault file kind.TooManyRows)) (header_fault file table)
    else when needed (file_fault file kind.MissingFile)

-- the first fault of a file's bytes before the rows of their table
unfoldable pub form_fault_of_bytes : Bool → ℕ → FileName → List ℕ → Option FeedFault
form_fault_of_bytes needed most file bytes =
    option_or (when (not (is_utf8 bytes)) (file_fault file kind.NotUtf8))
    (form_fault_of_table needed most file (table_of_bytes bytes))

-- the first fault of a file as it is held
abbrev pub form_fault_of_held : Bool → FileName → HeldFile → Option FeedFault
form_fault_of_held needed file HeldFile.Missing = when needed (file_fault file kind.MissingFile)
form_fault_of_held needed file HeldFile.TooLarge = Some (file_fault file kind.FileTooLarge)
form_fault_of_held needed file (HeldFile.Bytes bytes) =
    option_or (form_fault_of_bytes needed most_rows file bytes) (form_fault_of_rows file (table_of_bytes bytes))

-- a file has a record; one that is too large counts as having records
abbrev pub has_record : HeldFile → Bool
has_record HeldFile.Missing = false
has_record HeldFile.TooLarge = true
has_record (HeldFile.Bytes bytes) = nat_lt 0 (length (table_of_bytes bytes))

-- a feed needs the file: calendar.txt where calendar_dates.txt has no record (Dataset Files)
abbrev pub is_needed : (FileName → HeldFile) → FileName → Bool
is_needed files file.Calendar = not (has_record (files file.CalendarDates))
is_needed files file = is_always_needed file

-- the first fault of a file by itself
unfoldable pub form_fault : (FileName → HeldFile) → FileName → Option FeedFault
form_fault files file = form_fault_of_held (is_needed files file) file (files file)

-- the first fault of the first pass, over all files in their order
unfoldable pub first_form_fault : (FileName → HeldFile) → Option FeedFault
first_form_fault files = first_in all_files (form_fault files)
