pub mod BagLaws
pub mod ClassLaws
pub mod FlightLaws
pub mod HeightLaws
pub mod StairLaws
pub mod ThinLaws
