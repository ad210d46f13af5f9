pub mod Entries
pub mod Finals
pub mod Labels
pub mod Tables
