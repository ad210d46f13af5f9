pub mod Columns
pub mod Cuts
pub mod Grouping
pub mod HeldRuns
pub mod Halts
pub mod Runs
pub mod Servings
pub mod Spans
