-- What the calls answer.
pub mod Reading
