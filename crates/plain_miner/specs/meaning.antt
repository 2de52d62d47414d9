-- What is meant.
pub mod Pieces
pub mod Members
