pub mod Standing
pub mod Updating
