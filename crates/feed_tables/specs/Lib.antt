pub mod RowNumbers
pub mod KeptTables
pub mod IndexedColumns
pub mod IdColumns
pub mod IdRows
pub mod LeftFiles
pub mod ReadCalls
