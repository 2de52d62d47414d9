use Rattle.shape_bounds.proofs.Deciding.{may_fail_where_fails, may_hold_where_holds}
use Rattle.shape_bounds.proofs.laws.shapes_bound_conditions.Goals as goal

pub returns-clause-holds : goal.returns-clause-holds
returns-clause-holds c = λ cond g simple. may_hold_where_holds g simple cond

pub returns-clause-fails : goal.returns-clause-fails
returns-clause-fails c = λ cond g simple. may_fail_where_fails g simple cond
