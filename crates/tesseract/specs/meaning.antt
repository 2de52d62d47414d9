-- What is meant.
pub mod Output
pub mod Status
pub mod Commands
pub mod Summary
