pub mod Keeping
pub mod Remembering
pub mod GroupsInOrder
