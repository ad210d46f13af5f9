pub mod JudgedBy
pub mod RowKeys
pub mod FittingChecks
pub mod Frames
