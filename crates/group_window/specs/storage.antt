-- How it is stored.
pub mod Run
pub mod Window
