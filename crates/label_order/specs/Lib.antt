pub mod Labels
pub mod PartLaws
