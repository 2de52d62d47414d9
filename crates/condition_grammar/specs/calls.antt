-- What the calls do, by their results.
pub mod Reading
pub mod Cursor
