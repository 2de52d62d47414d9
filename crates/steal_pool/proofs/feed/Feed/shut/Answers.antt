use Rattle.std.proofs.Common.{rules}
use Rattle.steal_pool.proofs.ShutWords.{sets}
use Rattle.steal_pool.proofs.feed.Feed.shut.Goals as goal

pub swap_as-requires : goal.swap_as-requires
swap_as-requires g c = (search rules, (search rules, (search rules, sets _ _ c.self.invariant.0.may_shut)))
