pub mod Prices
pub mod Known
pub mod Ways
pub mod WayLaws
pub mod Walks
