pub mod AreaRows
pub mod AreaTables
pub mod BuiltAreas
pub mod LikeStops
