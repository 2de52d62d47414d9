pub use Rattle.mining_model.specs.meaning.History
pub use Rattle.mining_model.specs.meaning.Step
pub use Rattle.mining_model.specs.meaning.NetChange
pub mod meaning
pub mod calls
