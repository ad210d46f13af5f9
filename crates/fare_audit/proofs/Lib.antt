pub mod SignedLaws
pub mod SetLaws
pub mod DayLaws
pub mod LikeLaws
pub mod FoundLaws
pub mod GapLaws
pub mod RunLaws
pub mod ReportLaws
