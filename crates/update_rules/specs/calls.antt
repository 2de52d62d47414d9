-- What the calls do, by their results.
pub mod Steps
pub mod Overlays
pub mod Telling
pub mod Sharing
