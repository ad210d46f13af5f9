pub mod Groups
pub mod Parts
