pub mod Terms
pub mod Changes
pub mod Options
pub mod Steps
pub mod Compiled
pub mod Known
pub mod Fewest
pub mod Cheapest
