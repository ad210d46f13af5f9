-- Faults with their places: of a whole file, of a column of its header, of a data row. Data rows are counted from 1 in a
-- fault, and 0 stands for the file.
use Rattle.std.specs.Prelude.{ℕ, ◌+◌, None, Some}
use Rattle.feed_files.specs.declared.names.FileName.{FileName}
use Rattle.feed_files.specs.declared.names.ColumnName.{ColumnName}
use Rattle.feed_files.specs.declared.faults.FaultKind.{FaultKind}
use Rattle.feed_files.specs.declared.faults.FeedFault.{FeedFault}

-- a fault of a file
abbrev pub file_fault : FileName → FaultKind → FeedFault
file_fault file kind = record { kind = kind; file = file; row = 0; column = None }

-- a fault of a column of the header
abbrev pub column_fault : FileName → ColumnName → FaultKind → FeedFault
column_fault file column kind = record { kind = kind; file = file; row = 0; column = Some column }

-- a fault of a data row, which is numbered from 0 here
abbrev pub row_fault : FileName → ℕ → FaultKind → FeedFault
row_fault file row kind = record { kind = kind; file = file; row = row + 1; column = None }

-- a fault of a field of such a row
abbrev pub field_fault : FileName → ℕ → ColumnName → FaultKind → FeedFault
field_fault file row column kind = record { kind = kind; file = file; row = row + 1; column = Some column }
