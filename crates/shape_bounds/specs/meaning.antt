-- What is meant.
pub mod Bounds
pub mod Outcomes
