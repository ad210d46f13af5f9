pub mod RideKinds
