-- What is meant.
pub mod Needs
