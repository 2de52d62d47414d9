-- How it is stored.
pub mod Levels
