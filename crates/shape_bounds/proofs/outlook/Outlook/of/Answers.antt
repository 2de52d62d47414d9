use Rattle.shape_bounds.proofs.Places.{filled-foretells, filled-one_more}
use Rattle.shape_bounds.proofs.outlook.Outlook.of.Goals as goal

pub loop-place-preserved : goal.loop-place-preserved
loop-place-preserved c = filled-one_more c.args.cond.now c.loop-place.outcomes c.loop-place.place c.outcome_of.result c.loop-place-test.true c.outcome_of.ensures c.loop-place.invariant

pub returns : goal.returns
returns c = filled-foretells c.args.cond.now c.loop-place.outcomes c.loop-place.place c.loop-place-test.false c.loop-place.invariant
