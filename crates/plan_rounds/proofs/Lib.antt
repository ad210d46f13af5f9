pub mod WholeLaws
pub mod FinalLaws
pub mod SearchedLaws
pub mod PlannedLaws
