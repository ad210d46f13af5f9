pub mod LabelSteps
pub mod Futility
pub mod LinkedTables
