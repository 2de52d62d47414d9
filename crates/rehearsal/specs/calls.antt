-- What private calls do.
pub mod Tasks
