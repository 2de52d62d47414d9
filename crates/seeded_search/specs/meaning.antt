-- What is meant.
pub mod Elements
pub mod Trials
pub mod Found
pub mod Notes
