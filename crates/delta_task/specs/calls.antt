-- What the calls do, by their results.
pub mod Finding
pub mod Sorting
pub mod Deltas
pub mod Walking
