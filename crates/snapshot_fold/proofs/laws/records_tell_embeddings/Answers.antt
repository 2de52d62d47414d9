use Rattle.snapshot_fold.proofs.Telling.{fold_text-history}
use Rattle.snapshot_fold.proofs.laws.records_tell_embeddings.Goals as goal

pub returns : goal.returns
returns c = λ format pattern first later m t can within. fold_text-history format pattern first later m can t within
