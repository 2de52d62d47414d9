-- What the calls do, by their results.
pub mod Changing
pub mod Filling
pub mod Keeping
