-- What is meant.
pub mod Token
pub mod Lexing
pub mod Grammar
pub mod Derivations
pub mod Text
