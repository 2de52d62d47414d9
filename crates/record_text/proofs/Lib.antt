pub mod Digits
pub mod Members
pub mod PieceLines
pub mod Pieces
pub mod Words
pub mod Written
pub mod Texts
