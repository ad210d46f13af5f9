pub mod Runs
pub mod Tables
pub mod Trips
pub mod Stretches
pub mod Gaps
pub mod Filled
