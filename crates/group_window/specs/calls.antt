-- What the calls do, by their results.
pub mod Differences
pub mod Keeping
