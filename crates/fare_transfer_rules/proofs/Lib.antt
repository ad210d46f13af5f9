pub mod ClassLaws
pub mod CountLaws
pub mod PickedLaws
pub mod SelectedLaws
pub mod RowLaws
pub mod PairLaws
