pub mod meaning
pub mod storage
