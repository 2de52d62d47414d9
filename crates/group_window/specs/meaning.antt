-- What is meant.
pub mod Windows
