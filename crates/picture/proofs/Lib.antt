pub mod Bits
pub mod Pairs
pub mod Reach
pub mod Stored
pub mod Places
pub mod Drawings
pub mod Connecting
pub mod Counted
