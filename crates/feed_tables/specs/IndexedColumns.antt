-- What contracts see of an index: the table and the column by which its rows are found.
use Rattle.feed_files.specs.declared.names.ColumnName.{ColumnName}
use Rattle.feed_faults.specs.Records.{FileTable}

pub record IndexedColumn : Type 0 where
  pub table : FileTable
  pub name : ColumnName
