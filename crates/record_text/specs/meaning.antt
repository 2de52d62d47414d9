-- What is meant.
pub mod Text
pub mod Grammar
pub mod Listing
pub mod Writable
