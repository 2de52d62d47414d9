-- What is meant.
pub mod KnownMaps
pub mod Versions
pub mod Shards
pub mod Telling
pub mod Joining
