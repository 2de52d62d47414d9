use Rattle.shape_bounds.proofs.Deciding.{outcome-fails, outcome-holds}
use Rattle.shape_bounds.proofs.laws.outcomes_tell.Goals as goal

pub returns-clause-holds : goal.returns-clause-holds
returns-clause-holds c = λ cond g simple. outcome-holds g simple cond

pub returns-clause-fails : goal.returns-clause-fails
returns-clause-fails c = λ cond g simple. outcome-fails g simple cond
