-- What the calls do, by their results.
pub mod Entry
pub mod Lends
