pub mod CutLaws
pub mod LinkLaws
pub mod CoverLaws
pub mod SpreadLaws
pub mod StoreLaws
