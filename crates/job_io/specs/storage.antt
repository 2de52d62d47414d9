-- How it is stored.
pub mod LineBuffer
