-- What is meant.
pub mod Places
pub mod Parts
