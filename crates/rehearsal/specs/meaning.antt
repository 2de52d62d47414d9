-- What is meant.
pub mod MachineState
pub mod Table
pub mod Schedules
pub mod Kinds
pub mod Shown
pub mod Soundness
