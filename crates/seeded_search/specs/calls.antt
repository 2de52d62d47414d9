-- What the calls do, by their results.
pub mod Stops
pub mod Turning
pub mod Exploring
pub mod Dropping
