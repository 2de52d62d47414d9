-- What the calls do, by their results.
pub mod Entry
pub mod Counts
pub mod Views
pub mod TwoGraphs
pub mod Finding
