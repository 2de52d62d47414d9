pub mod Sorting
pub mod Alone
pub mod Noted
pub mod Telling
pub mod TurnByTurn
