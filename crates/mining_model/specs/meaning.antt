-- What is meant.
pub mod Step
pub mod History
pub mod NetChange
pub mod Picture
pub mod Connected
pub mod Embeddings
pub mod Changes
