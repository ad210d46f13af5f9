pub mod Reader
pub mod TextErrors
pub mod FieldNumbers
pub mod RowLimits
pub mod DataRows
