pub mod GroupLaws
pub mod PartLaws
