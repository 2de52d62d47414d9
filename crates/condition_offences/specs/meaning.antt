-- What is meant.
pub mod Offences
