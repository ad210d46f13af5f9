pub mod GatherLaws
pub mod LayerLaws
pub mod CheapestLaws
pub mod KnownLaws
pub mod WalkLaws
