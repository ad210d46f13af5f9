pub mod Bags
pub mod Flights
pub mod Offers
