-- What is meant.
pub mod TrialJob
