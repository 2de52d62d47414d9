-- What is meant.
pub mod Notes
