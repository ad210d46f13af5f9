pub mod Columns
pub mod Classes
pub mod Counts
pub mod Fits
pub mod BuiltTransferRules
pub mod Changes
