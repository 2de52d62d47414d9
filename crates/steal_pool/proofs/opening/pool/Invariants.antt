use Rattle.std.proofs.Common.{◌≡◌, replicate}
use Rattle.steal_pool.specs.calls.Making.{new_feed, new_thief}
use Rattle.steal_pool.proofs.opening.pool.Given as goal

abbrev pub invariant-loop-i : goal.invariant-loop-i
invariant-loop-i g l =
    (l.feed ≡ new_feed l.initial.feed.pool l._i l.room) × (l.list ≡ replicate l._i (new_thief l.initial.feed.pool))
