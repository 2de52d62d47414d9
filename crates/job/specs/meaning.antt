-- What is meant.
pub mod Judging
pub mod Following
