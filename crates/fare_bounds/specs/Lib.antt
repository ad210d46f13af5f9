pub mod Amounts
pub mod Limits
pub mod Payable
pub mod Levels
pub mod FareBounds
pub mod LastChanges
