pub mod Sides
pub mod VertexPictures
pub mod Ascending
pub mod ShortLists
pub mod Listed
pub mod Histories
pub mod Differences
