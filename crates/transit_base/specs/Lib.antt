pub mod Moments
pub mod Dates
pub mod DateTexts
pub mod Limits
