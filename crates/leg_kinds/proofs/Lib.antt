pub mod KindLaws
pub mod OrderLaws
