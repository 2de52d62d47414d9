-- How it is stored.
pub mod Size
