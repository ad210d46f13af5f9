pub mod Names
pub mod Faults
pub mod HeldFiles
pub mod FaultCounts
