pub mod OfferLaws
pub mod CheapestLaws
