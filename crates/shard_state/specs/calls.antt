-- What the calls do.
pub mod Fitting
pub mod CellChanges
pub mod Touching
pub mod Viewing
pub mod Together
pub mod Sharing
