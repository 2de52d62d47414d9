-- Changes, by the shards of their vertices.
use Rattle.std.specs.Prelude.{◌≡◌, ℕ, eqb, List, [], ◌∷◌, ◌++◌, filter, Option, None, Some, unwrap_or, if◌then◌else◌}
use Rattle.std.specs.BTreeMap.{BTreeMap, get}
use Rattle.std.specs.Ordering.{nat_cmp}
use Rattle.update_rules.specs.declared.changes.Change.{Change}
use Rattle.update_rules.specs.meaning.Parts.{shard_of}

abbrev pub in_shard : ℕ → ℕ → List Change → List Change
in_shard shards shard changes = filter (λ change. eqb (shard_of shards change) shard) changes

-- a list that has something, and nothing where it has not
abbrev pub some_list : List Change → Option (List Change)
some_list [] = None
some_list (change ∷ changes) = Some (change ∷ changes)

-- the map has the changes of each shard that has some
abbrev pub AreShared : ℕ → BTreeMap ℕ (List Change) → List Change → Type 0
AreShared shards map changes = (shard : ℕ) → get nat_cmp map shard ≡ some_list (in_shard shards shard changes)

-- one change more, at a shard
abbrev pub TakesIn : BTreeMap ℕ (List Change) → BTreeMap ℕ (List Change) → ℕ → Change → Type 0
TakesIn old new at change = (shard : ℕ) → get nat_cmp new shard ≡ (if eqb shard at then Some (unwrap_or (get nat_cmp old shard) [] ++ change ∷ []) else get nat_cmp old shard)
