-- What is meant.
pub mod Space
pub mod Trials
pub mod Wanted
