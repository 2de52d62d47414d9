-- What the calls do.
pub mod Candidates
