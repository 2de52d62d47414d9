pub mod Extending
pub mod Linking
pub mod Unique
pub mod Least
pub mod Existing
pub mod Members
