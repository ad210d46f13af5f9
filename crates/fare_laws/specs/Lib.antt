pub mod BareMoves
pub mod SmallMoves
