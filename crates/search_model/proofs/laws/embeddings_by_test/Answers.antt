use Rattle.search_model.proofs.Embedded.{embedded_is}
use Rattle.search_model.proofs.laws.embeddings_by_test.Goals as goal

pub returns : goal.returns
returns c = embedded_is
