-- What is meant.
pub mod Sizes
pub mod Header
pub mod Programs
pub mod Text
