use Rattle.shape_bounds.proofs.Comparing.{holds_between, number_between, opposite-is}
use Rattle.shape_bounds.proofs.laws.bounds_decide_comparisons.Goals as goal

pub returns-clause-exact : goal.returns-clause-exact
returns-clause-exact c = λ op least most bound order. (number_between op least most bound order, λ w. holds_between op w.number least most bound w.from_least w.to_most w.compares)

pub returns-clause-opposite : goal.returns-clause-opposite
returns-clause-opposite c = opposite-is
