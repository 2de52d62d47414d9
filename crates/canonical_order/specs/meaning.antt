-- What is meant.
pub mod Order
pub mod Canonical
pub mod Linked
pub mod Extension
