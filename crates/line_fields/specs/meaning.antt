-- What is meant.
pub mod Fields
pub mod Names
