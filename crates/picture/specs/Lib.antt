pub use Rattle.mining_model.specs.meaning.Connected
pub mod meaning
pub mod calls
pub mod storage
