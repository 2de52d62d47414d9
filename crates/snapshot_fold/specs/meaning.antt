-- What is meant.
pub mod Pieces
pub mod FoldState
pub mod Forms
pub mod Taking
pub mod FoldText
pub mod Folding
pub mod Records
pub mod Accepted
