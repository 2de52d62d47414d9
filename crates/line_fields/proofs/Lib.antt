pub mod WordsOf
pub mod NumberOf
pub mod Decimals
mod Numbers
