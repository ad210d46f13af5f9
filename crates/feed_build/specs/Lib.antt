pub mod NameNumbers
pub mod TableNames
