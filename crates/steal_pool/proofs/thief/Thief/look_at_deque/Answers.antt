use Rattle.std.proofs.Common.{arith}
use Rattle.steal_pool.proofs.Balances.{takes, finds_none}
use Rattle.steal_pool.proofs.thief.Thief.look_at_deque.Goals as goal

pub steal_as-requires-clause-takes : goal.steal_as-requires-clause-takes
steal_as-requires-clause-takes g c = takes g.T.Numbered.number _ _ 1 (let one = c.self.invariant.0.deque_part in omega arith)

pub steal_as-requires-clause-empty : goal.steal_as-requires-clause-empty
steal_as-requires-clause-empty g c = finds_none g.T.Numbered.number _ _ _ (let fifo = c.self.invariant.1 in omega arith)
