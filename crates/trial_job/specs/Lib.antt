pub mod meaning
pub mod calls
