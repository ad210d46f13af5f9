pub mod TripNumberLaws
pub mod SeenLaws
pub mod KeyLaws
pub mod FrameLaws
pub mod LeastLaws
pub mod FittingLaws
pub mod RangeLaws
