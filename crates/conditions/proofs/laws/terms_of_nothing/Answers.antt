use Rattle.conditions.proofs.Emptiness.{count-empty}
use Rattle.conditions.proofs.laws.terms_of_nothing.Goals as goal

pub returns : goal.returns
returns c = count-empty
