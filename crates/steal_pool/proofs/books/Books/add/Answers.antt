use Rattle.std.proofs.Common.{arith}
use Rattle.steal_pool.proofs.Balances.{merges}
use Rattle.steal_pool.proofs.books.Books.add.Goals as goal

pub absorb-requires-clause-rule : goal.absorb-requires-clause-rule
absorb-requires-clause-rule g c = merges g.T.Numbered.number _ _ _ _ c.self.invariant.0.some_part

pub absorb-requires-2-clause-rule : goal.absorb-requires-2-clause-rule
absorb-requires-2-clause-rule g c =
    merges g.T.Numbered.number _ _ _ _ (let some_part = c.self.invariant.0.some_part in let same = c.self.invariant.0.same_parts in omega arith)
