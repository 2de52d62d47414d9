pub mod Counting
pub mod Items
pub mod Levels
pub mod Reaching
pub mod Trying
