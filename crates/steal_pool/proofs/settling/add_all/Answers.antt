use Rattle.steal_pool.proofs.Settlings.{back_by_one}
use Rattle.steal_pool.proofs.settling.add_all.Goals as goal

pub loop-thief-preserved : goal.loop-thief-preserved
loop-thief-preserved g c =
    back_by_one _ _ c.args.books.now c.loop-thief.books c.add.new.self c.in-Some.thief c.args.thieves c.loop-thief.invariant.0 c.loop-thief.invariant.1 c.in-Some.ensures c.add.ensures.books c.add.ensures.adds_up
