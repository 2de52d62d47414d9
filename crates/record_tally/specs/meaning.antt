-- What is meant.
pub mod Lines
pub mod Totals
