pub mod Rules
pub mod Near
pub mod OutOf
pub mod BuiltWalks
