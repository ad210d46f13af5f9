pub mod Answers
pub mod Due
pub mod Outcomes
pub mod Written
pub mod NamedRides
pub mod RidePrices
