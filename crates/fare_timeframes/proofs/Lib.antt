pub mod CutLaws
pub mod FrameLaws
pub mod DayLaws
