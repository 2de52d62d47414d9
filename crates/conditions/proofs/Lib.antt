pub mod Forms
pub mod Tokens
pub mod Patterns
pub mod Orders
pub mod Counting
pub mod Emptiness
pub mod MissingPairs
pub mod EdgeCounts
