use Rattle.steal_pool.specs.calls.Settling.{MovesFromQueue}
use Rattle.steal_pool.proofs.books.Books.drain_queue.Given as goal

abbrev pub invariant-loop : goal.invariant-loop
invariant-loop g l =
    (goal.iterator-loop g).can_next l.iterator' × (goal.iterator-loop g).is_finite l.iterator' × MovesFromQueue g.T.Numbered.number l.initial.self l.initial.left l.self l.left
