use Rattle.std.proofs.Common.{◌≡◌, ◌++◌, map as mapped}
use Rattle.std.specs.List.{range_with_len}
use Rattle.rehearsal.specs.meaning.Kinds.{event_of_shard}
use Rattle.rehearsal.proofs.listing.ShardKind.add_all.Given as goal

-- the events of the shards before this one are listed
abbrev pub invariant-loop-s : goal.invariant-loop-s
invariant-loop-s l = l.events ≡ l.initial.events ++ mapped (event_of_shard l.self) (range_with_len 0 l.s)
