-- A file as a table: its first record is the header, and each record after it is a data row. Fields have no blanks at
-- their ends, columns are found by their names in the header, and data rows are numbered from 0.
use Rattle.std.specs.Prelude.{ℕ, ◌+◌, ◌-◌, ◌==◌, ◌&&◌, ◌||◌, nat_le, if◌then◌else◌, Bool, true, false, List, [], ◌∷◌, length, get_or, map, reverse, bytes_eq, Option}
use Rattle.std.specs.Option.{option_map_or}
use Rattle.csv.specs.Reading.{default_config, strip_bom, records}
use Rattle.feed_files.specs.declared.names.ColumnName.{ColumnName}
use Rattle.feed_files.specs.Names.{column_text}
use Rattle.plain_laws.specs.Plain.{find_below, any_below}

-- the records of a file, header first; the empty list is a file that isn't there
abbrev pub FileTable : Type 0
FileTable = List (List (List ℕ))

-- the records of a file's bytes behind one byte order mark, of any length each (File Requirements)
abbrev pub file_records : List ℕ → List (List (List ℕ))
file_records bytes = records default_config (strip_bom bytes)

-- a space or a tab
abbrev pub is_blank : ℕ → Bool
is_blank c = (c == 32) || (c == 9)

-- a text without the blanks at its start
abbrev pub cut_start : List ℕ → List ℕ
cut_start [] = []
cut_start (c ∷ cs) = if is_blank c then cut_start cs else c ∷ cs

-- a text without the blanks at both ends (profile)
unfoldable pub cut : List ℕ → List ℕ
cut text = reverse (cut_start (reverse (cut_start text)))

-- the table of a file's bytes: their records, each field cut
unfoldable pub table_of_bytes : List ℕ → FileTable
table_of_bytes bytes = map (map cut) (file_records bytes)

-- the names of the columns
abbrev pub header : FileTable → List (List ℕ)
header table = get_or table 0 []

-- how many data rows there are
abbrev pub row_count : FileTable → ℕ
row_count table = length table - 1

-- the fields of a data row, which may be fewer or more than the columns
abbrev pub data_row : FileTable → ℕ → List (List ℕ)
data_row table row = get_or table (row + 1) []

-- the place of the first column of this name, by its bytes
unfoldable pub column_of : FileTable → ColumnName → Option ℕ
column_of table name = find_below (length (header table)) (λ c. bytes_eq (get_or (header table) c []) (column_text name))

-- the field of a data row in a column; empty where the row is short or has no such column
unfoldable pub field : FileTable → ℕ → ColumnName → List ℕ
field table row name = option_map_or (λ c. get_or (data_row table row) c []) (column_of table name) []

-- the fields of a row, by the names of their columns
abbrev pub Fields : Type 0
Fields = ColumnName → List ℕ

-- a field isn't empty
abbrev pub is_filled : List ℕ → Bool
is_filled [] = false
is_filled (c ∷ cs) = true

-- a data row has a field past the header that isn't empty
unfoldable pub is_long : FileTable → ℕ → Bool
is_long table row =
    any_below (length (data_row table row)) (λ c. nat_le (length (header table)) c && is_filled (get_or (data_row table row) c []))
