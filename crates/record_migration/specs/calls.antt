-- What the calls do, by their results.
pub mod Migrates
pub mod Turns
