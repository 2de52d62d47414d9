pub mod Balances
pub mod Openings
pub mod Rounds
pub mod Settlings
pub mod ShutWords
