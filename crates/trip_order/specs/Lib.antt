pub mod Joined
pub mod Order
