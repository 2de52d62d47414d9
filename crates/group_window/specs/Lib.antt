pub use Rattle.mining_model.specs.meaning.History
pub use Rattle.mining_model.specs.meaning.Step
pub use Rattle.mining_model.specs.meaning.NetChange
pub use Rattle.update_rules.specs.meaning.Parts
pub use Rattle.update_rules.specs.calls.Steps
pub mod meaning
pub mod calls
pub mod storage
