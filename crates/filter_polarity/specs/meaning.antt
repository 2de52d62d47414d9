-- What is meant.
pub mod Polarity
pub mod Program
