pub mod Terms
pub mod Comparing
pub mod Deciding
pub mod Places
