-- What is meant.
pub mod Grammar
