-- What is meant.
pub mod Graph
pub mod Neighbourhood
pub mod Simple
pub mod Piece
pub mod Orders
