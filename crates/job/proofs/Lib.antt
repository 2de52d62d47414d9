pub mod Bounds
pub mod Following
pub mod Limits
pub mod NextStages
