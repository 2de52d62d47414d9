-- What the calls do.
pub mod Changing
