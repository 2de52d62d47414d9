-- What the calls do, by their results.
pub mod Folds
pub mod Reading
pub mod Standing
pub mod Given
