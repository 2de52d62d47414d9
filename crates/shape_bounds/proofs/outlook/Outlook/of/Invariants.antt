use Rattle.shape_bounds.proofs.Places.{IsFilled}
use Rattle.shape_bounds.proofs.outlook.Outlook.of.Given as goal

abbrev pub invariant-loop-place : goal.invariant-loop-place
invariant-loop-place l = IsFilled l.cond l.outcomes l.place
