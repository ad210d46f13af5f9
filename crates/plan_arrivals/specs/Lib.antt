pub mod NoFares
pub mod Arrivals
