-- How it is stored.
pub mod Foresight
