-- What is meant.
pub mod Lines
