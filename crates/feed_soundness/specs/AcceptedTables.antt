-- What the two passes say of tables where they find no fault: each file by itself is formed, and the files are related.
use Rattle.std.specs.Prelude.{◌≡◌, ℕ, ◌<◌, ◌≤◌, slice_get, Some, None, false}
use Rattle.feed_rows.specs.Limits.{most_rows}
use Rattle.feed_files.specs.declared.names.FileName.{FileName}
use Rattle.feed_faults.specs.declared.columns.ColumnRule.{ColumnRule}
use Rattle.feed_faults.specs.declared.checks.RowRule.{RowRule}
use Rattle.feed_faults.specs.Records.{FileTable, row_count, field}
use Rattle.feed_faults.specs.FormFaults.{field_misfit, judged_columns}
use Rattle.feed_faults.specs.FeedTables.{FeedTables, table_in}
use Rattle.feed_faults.specs.FileColumns.{checks_of}
use Rattle.feed_faults.specs.RowChecks.{fails}

-- a file is formed: it hasn't too many rows, and no judged field of them has a fault
pub record IsFormed (file : FileName) (table : FileTable) : Type 0 where
  pub few : row_count table ≤ most_rows
  pub fields : (row k : ℕ) (rule : ColumnRule) → row < row_count table → slice_get (judged_columns file (field table row)) k ≡ Some rule → field_misfit (field table row) rule ≡ None

-- all files are formed
abbrev pub AreFormed : FeedTables → Type 0
AreFormed t = (name : FileName) → IsFormed name (table_in t name)

-- no row of a file fails one of its checks among the rows of all files
abbrev pub AreRelated : FeedTables → Type 0
AreRelated t =
    (name : FileName) (row k : ℕ) (rule : RowRule) → row < row_count (table_in t name) → slice_get (checks_of name) k ≡ Some rule
    → fails t name rule row ≡ false
