pub mod Terms
pub mod Tasks
pub mod Labels
pub mod CoverLaws
pub mod Classes
pub mod Steps
pub mod Costs
pub mod Legs
