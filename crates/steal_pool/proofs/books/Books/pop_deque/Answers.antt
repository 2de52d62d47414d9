use Rattle.steal_pool.proofs.Balances.{takes, finds}
use Rattle.steal_pool.proofs.books.Books.pop_deque.Goals as goal

pub pop_as-requires-clause-fifo : goal.pop_as-requires-clause-fifo
pop_as-requires-clause-fifo g c = λ _. takes g.T.Numbered.number _ _ 1 c.self.invariant.0.some_part

pub pop_as-requires-clause-empty : goal.pop_as-requires-clause-empty
pop_as-requires-clause-empty g c = finds g.T.Numbered.number _ _
