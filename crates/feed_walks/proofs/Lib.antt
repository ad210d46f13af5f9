pub mod PlaceLaws
pub mod RuleLaws
pub mod OrderLaws
pub mod NearLaws
pub mod StepLaws
