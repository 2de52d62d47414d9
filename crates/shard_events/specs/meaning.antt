-- What is meant.
pub mod Machine
pub mod Events
pub mod Rule
