pub mod Columns
pub mod Places
pub mod Fits
pub mod Orders
pub mod BuiltLegRules
