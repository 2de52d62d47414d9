-- What the calls do, by their results.
pub mod Run
pub mod Fold
pub mod Migrate
pub mod Trial
pub mod Waiting
pub mod Turning
pub mod Running
pub mod Progress
pub mod Writing
