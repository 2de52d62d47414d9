pub mod meaning
pub mod calls
pub mod storage
