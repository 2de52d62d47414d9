-- What the calls do, by their results.
pub mod Making
pub mod Looks
pub mod Steals
pub mod Settling
