use Rattle.steal_pool.proofs.Balances.{puts}
use Rattle.steal_pool.proofs.feed.Feed.feed.Goals as goal

pub push_as-requires-clause-pushes : goal.push_as-requires-clause-pushes
push_as-requires-clause-pushes g c = puts g.T.Numbered.number _ _ _ c.self.invariant.0.some_part
