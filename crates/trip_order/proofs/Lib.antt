pub mod JoinLaws
pub mod SortLaws
