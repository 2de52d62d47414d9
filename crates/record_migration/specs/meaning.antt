-- What is meant.
pub mod Migrated
