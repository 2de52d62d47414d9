-- What is meant.
pub mod Picture
