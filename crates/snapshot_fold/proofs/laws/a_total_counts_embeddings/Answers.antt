use Rattle.snapshot_fold.proofs.Telling.{total_at-embeddings}
use Rattle.snapshot_fold.proofs.laws.a_total_counts_embeddings.Goals as goal

pub returns : goal.returns
returns c = total_at-embeddings
