-- How it is stored.
pub mod Remembered
