-- What the calls do, by their results.
pub mod Drawn
pub mod Grown
