pub mod calls
pub mod meaning
