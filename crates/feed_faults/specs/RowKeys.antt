-- Rows by what stands in their columns.
use Rattle.std.specs.Prelude.{ℕ, ◌&&◌, Bool, List, bytes_eq, is_none, Option}
use Rattle.feed_files.specs.declared.names.ColumnName.{ColumnName}
use Rattle.plain_laws.specs.Plain.{find_below, any_below}
use Rattle.feed_faults.specs.Records.{FileTable, row_count, field, is_filled}

-- the earliest row with this id in a column
unfoldable pub row_of : FileTable → ColumnName → List ℕ → Option ℕ
row_of table name id = find_below (row_count table) (λ row. bytes_eq id (field table row name))

-- a field is filled, and no row of the column has it: an empty reference is no fault
abbrev pub is_unknown : FileTable → ColumnName → List ℕ → Bool
is_unknown table name id = is_filled id && is_none (row_of table name id)

-- two rows have the same field in a column; empty fields are the same too
abbrev pub same_field : FileTable → ColumnName → ℕ → ℕ → Bool
same_field table name a b = bytes_eq (field table a name) (field table b name)

-- an earlier row is the same as this one
abbrev pub is_repeated : (ℕ → ℕ → Bool) → ℕ → Bool
is_repeated same row = any_below row (same row)

-- an earlier row has the same id
unfoldable pub is_doubled : FileTable → ColumnName → ℕ → Bool
is_doubled table name row = is_repeated (same_field table name) row
