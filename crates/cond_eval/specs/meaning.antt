-- What is meant.
pub mod Patterns
