pub mod FirstLaws
pub mod AmountLaws
pub mod PayableLaws
pub mod LevelLaws
pub mod LimitLaws
pub mod StepLaws
pub mod LastLaws
pub mod BoundLaws
