pub mod calls
pub mod storage
