pub mod DateLemmas
pub mod CheckedDates
