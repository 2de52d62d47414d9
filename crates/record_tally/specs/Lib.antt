pub mod meaning
pub mod storage
pub mod calls
