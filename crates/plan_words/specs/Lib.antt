pub mod Errors
pub mod Found
pub mod Request
pub mod Rides
pub mod Words
