pub mod Ascent
pub mod Asking
pub mod CellSteps
