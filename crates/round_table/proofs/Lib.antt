pub mod EntryLaws
pub mod TableLaws
