-- How it is stored.
pub mod Links
pub mod Slots
