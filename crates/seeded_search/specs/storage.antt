-- How it is stored.
pub mod Levels
pub mod Sides
