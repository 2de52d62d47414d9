use Rattle.std.proofs.Common.{arith}
use Rattle.steal_pool.proofs.Balances.{puts}
use Rattle.steal_pool.proofs.thief.Thief.again.Goals as goal

pub push_as-requires-clause-rule : goal.push_as-requires-clause-rule
push_as-requires-clause-rule g c = puts g.T.Numbered.number _ _ _ (let one = c.self.invariant.0.queue_part in omega arith)
