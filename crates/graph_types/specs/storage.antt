-- How it is stored.
pub mod Adjacency
pub mod Few
pub mod Kept
pub mod Slots
pub mod Left
pub mod Seen
pub mod Ahead
pub mod Found
