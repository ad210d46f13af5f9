pub mod CommandLines
pub mod Fields
pub mod LineParts
