use Rattle.mining_model.proofs.Ascending.{IsStrictlySortedBy-embeddings}
use Rattle.mining_model.proofs.laws.embeddings_ascend.Goals as goal

pub returns : goal.returns
returns c = IsStrictlySortedBy-embeddings
