use Rattle.snapshot_fold.proofs.Prefixes.{fold_text-more}
use Rattle.snapshot_fold.proofs.laws.a_longer_text_tells_the_same.Goals as goal

pub returns : goal.returns
returns c = fold_text-more
