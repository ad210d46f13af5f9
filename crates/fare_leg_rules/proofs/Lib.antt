pub mod PlaceLaws
pub mod RuleLaws
pub mod OrderLaws
