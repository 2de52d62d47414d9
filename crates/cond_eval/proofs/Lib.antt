pub mod AnyOrder
pub mod Steps
pub mod Drawn
pub mod Counts
pub mod Sums
