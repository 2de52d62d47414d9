-- How it is stored.
pub mod HeaderSoFar
