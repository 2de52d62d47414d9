pub use Rattle.mining_model.specs.meaning.Picture
pub use Rattle.mining_model.specs.meaning.Embeddings
pub use Rattle.mining_model.specs.meaning.Changes
pub use Rattle.conditions.specs.meaning.Counts
pub use Rattle.conditions.specs.meaning.Conditions
pub mod meaning
