pub mod ClapLaws
pub mod OptionLaws
pub mod RequestLaws
pub mod RideLaws
pub mod RowLaws
pub mod TableLaws
pub mod WalkLaws
pub mod WordLaws
