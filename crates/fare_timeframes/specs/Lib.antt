pub mod Cuts
pub mod FrameRows
pub mod FrameDays
pub mod BlankLegs
pub mod BuiltTimeframes
