pub mod StepLaws
pub mod LastLaws
pub mod MoveLaws
pub mod KindLaws
pub mod SettledLaws
pub mod WayLaws
pub mod PriceLaws
pub mod TariffLaws
