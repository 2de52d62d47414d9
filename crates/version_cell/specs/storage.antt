-- How it is stored.
pub mod Due
pub mod Places
pub mod Around
pub mod Tracks
pub mod Merging
