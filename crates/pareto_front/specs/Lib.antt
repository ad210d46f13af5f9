pub mod Fronts
pub mod Ranks
pub mod TripleLaws
