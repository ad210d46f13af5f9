pub mod Offers
pub mod BuiltProducts
