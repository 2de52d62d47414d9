-- How it is stored.
pub mod Outlooks
