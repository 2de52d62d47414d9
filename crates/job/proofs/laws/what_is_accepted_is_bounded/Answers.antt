use Rattle.job.proofs.Bounds.{verdict-bounded}
use Rattle.job.proofs.laws.what_is_accepted_is_bounded.Goals as goal

pub returns : goal.returns
returns c = λ most lines. verdict-bounded most lines
