pub mod CommandLaws
pub mod LineLaws
pub mod RideBounds
pub mod PartLaws
