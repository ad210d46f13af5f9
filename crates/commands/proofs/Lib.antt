pub mod PriceQueryLaws
pub mod GeneratedLaws
