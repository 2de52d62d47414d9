-- What is meant.
pub mod Counts
pub mod Fits
pub mod Conditions
pub mod Written
