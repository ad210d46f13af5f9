pub mod Searched
pub mod Planned
