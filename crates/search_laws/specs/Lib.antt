pub mod Ways
pub mod Links
pub mod Cuts
pub mod Stores
