-- What is meant.
pub mod Ascending
pub mod Membership
