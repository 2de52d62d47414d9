-- What the calls do, by their results.
pub mod Leading
