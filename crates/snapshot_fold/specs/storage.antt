-- How it is stored.
pub mod Undone
pub mod Packed
pub mod Held
pub mod Left
