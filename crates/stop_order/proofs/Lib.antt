pub mod PlaceLaws
pub mod OrderLaws
pub mod KeyLaws
pub mod StretchLaws
pub mod ToldLaws
pub mod TogetherLaws
