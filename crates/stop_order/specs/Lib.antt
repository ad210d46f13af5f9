pub mod Numbered
pub mod Order
