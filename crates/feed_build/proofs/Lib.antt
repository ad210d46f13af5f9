pub mod NumberLaws
pub mod NameColumns
pub mod CurrencyLaws
pub mod FeedLaws
pub mod IdLaws
pub mod ValueLaws
