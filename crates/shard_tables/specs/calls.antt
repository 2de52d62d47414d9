-- What is true between the calls.
pub mod Building
pub mod Asking
pub mod CellSteps
