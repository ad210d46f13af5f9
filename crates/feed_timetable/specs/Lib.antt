pub mod Standings
pub mod ServicesOn
