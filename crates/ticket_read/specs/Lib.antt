pub mod Drafts
pub mod EntryTexts
pub mod Items
pub mod Judgement
pub mod Readings
