use Rattle.steal_pool.proofs.Rounds.{steals_after}
use Rattle.steal_pool.proofs.thief.Thief.steal.Goals as goal

pub returns-in-Some-try_steal-clause-answer : goal.returns-in-Some-try_steal-clause-answer
returns-in-Some-try_steal-clause-answer g c =
    steals_after g.T.Numbered.number _ _ c.in-Some-try_steal.taken _ c.loop.invariant.2 c.loop.invariant.3 c.in-Some-try_steal.ensures.answer
