use Rattle.steal_pool.proofs.Openings.{one_more, all_thieves}
use Rattle.steal_pool.proofs.opening.pool.Goals as goal

pub loop-i-preserved : goal.loop-i-preserved
loop-i-preserved g c =
    let before = c.loop-i.invariant in
    one_more _ _ _ c.loop-i.feed c.add_thief.new.feed c.loop-i.list c.push.new.self c.in_ok-thief.thief before.0 before.1 c.in_ok-thief.ensures.feed c.in_ok-thief.ensures.thief c.in_ok-push.ensures.ok

pub returns-clause-all : goal.returns-clause-all
returns-clause-all g c =
    let made = c.loop-i.invariant in all_thieves _ _ _ c.loop-i.feed c.loop-i.list made.0 made.1
