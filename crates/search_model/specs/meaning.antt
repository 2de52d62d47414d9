-- What is meant.
pub mod Joined
pub mod Seeds
pub mod Near
pub mod Finds
