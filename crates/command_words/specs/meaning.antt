-- What is meant.
pub mod Words
pub mod Ranges
pub mod Spelling
