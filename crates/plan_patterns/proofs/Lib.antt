mod ColumnLaws
mod CutLaws
mod GroupingLaws
mod HeldLaws
mod ServingLaws
