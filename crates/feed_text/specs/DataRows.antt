-- What contracts see of a data row.
use Rattle.std.specs.Prelude.{ℕ, List, [], ◌∷◌}
use Rattle.feed_faults.specs.Records.{FileTable, header}

-- a data row of a table, by its number
pub record RowOfTable : Type 0 where
  pub table : FileTable
  pub row : ℕ

-- a record, and the table whose header stands before it
pub record RecordOf : Type 0 where
  pub header : FileTable
  pub fields : List (List ℕ)

-- the table of the header and a record
abbrev pub one_row : FileTable → List (List ℕ) → FileTable
one_row table fields = header table ∷ fields ∷ []
