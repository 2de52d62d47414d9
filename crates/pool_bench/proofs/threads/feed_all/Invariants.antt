use Rattle.std.proofs.Common.{◌≡◌, ◌+◌, length}
use Rattle.pool_bench.proofs.threads.feed_all.Given as goal

abbrev pub invariant-loop-i : goal.invariant-loop-i
invariant-loop-i g l = (l.feed ≡ record l.initial.feed { fed = l.feed.fed }) × (length l.feed.fed ≡ length l.initial.feed.fed + l.i)
