-- What the calls do, by their results.
pub mod HeaderLine
pub mod Standing
pub mod Counting
pub mod Taking
