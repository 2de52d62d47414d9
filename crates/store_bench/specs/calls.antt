-- What the calls do.
pub mod Filling
pub mod Passing
