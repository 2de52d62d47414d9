-- Which parts a shard can take in.
use Rattle.std.specs.Prelude.{◌≡◌, ℕ, ◌<◌, map as mapped}
use Rattle.std.specs.List.{AllByRecursion}
use Rattle.std.specs.List.Sorted.{IsStrictlySortedBy}
use Rattle.update_rules.specs.declared.shards.Part.{Part}
use Rattle.update_rules.specs.meaning.Parts.{vertex_of}
use Rattle.update_rules.specs.meaning.Places.{place_cmp}
use Rattle.shard_state.specs.meaning.Shards.{IsOwn, ShardValue, place_of}

-- The part has changes at the shard's own vertices, one for each place, in order. Its timestamp is later than all that
-- the shard knows.
pub record Fits (shard : ShardValue) (part : Part) (at : ℕ) : Type 0 where
  pub for_it : part.shard ≡ shard.number
  pub own : AllByRecursion (λ change. IsOwn shard (vertex_of change)) part.changes
  pub ascending : IsStrictlySortedBy place_cmp (mapped place_of part.changes)
  pub after_last : shard.upto < at
  pub after_floor : shard.floor < at
