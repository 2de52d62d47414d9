use Rattle.std.proofs.Common.{arith}
use Rattle.steal_pool.proofs.Balances.{takes, finds}
use Rattle.steal_pool.proofs.thief.Thief.look_at_queue.Goals as goal

pub steal_as-requires-clause-rule : goal.steal_as-requires-clause-rule
steal_as-requires-clause-rule g c = (takes g.T.Numbered.number _ _ 1 (let one = c.self.invariant.0.queue_part in omega arith), finds g.T.Numbered.number _ _)
