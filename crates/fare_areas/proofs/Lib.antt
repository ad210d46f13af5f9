pub mod AreaLaws
pub mod StopLaws
