-- What is meant.
pub mod Finds
