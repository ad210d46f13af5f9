pub mod BuiltStops
