-- What differs between two graphs, told at each vertex, and parted among shards.
use Rattle.std.specs.Prelude.{ℕ, ◌%◌, Bool, true, false, eqb, List, [], ◌∷◌, map, filter, Option, None, Some}
use Rattle.std.specs.List.{range_with_len}
use Rattle.graph_types.specs.meaning.Graph.{Graph}
use Rattle.mining_model.specs.meaning.NetChange.{keys_of_either}
use Rattle.update_rules.specs.declared.changes.Change.{Change}
use Rattle.update_rules.specs.declared.changes.Change.TheVariants.{Label, Near}
use Rattle.update_rules.specs.declared.shards.Part.{Part}
use Rattle.update_rules.specs.meaning.Places.{Place, entry_at, entry_differs, places_among}

-- the change to an entry that is there now, or to none
abbrev pub change_of : ℕ → Option ℕ → Option ℕ → Change
change_of v None now = Label v now
change_of v (Some to) now = Near v to now

abbrev pub change_to : Place → Option ℕ → Change
change_to p now = change_of p.0 p.1 now

-- the places at which two graphs differ, in order
abbrev pub changed_places : Graph → Graph → List Place
changed_places before after = filter (entry_differs before after) (places_among (keys_of_either before.labels after.labels))

-- each vertex's entries that differ, with what stands there in the second graph
abbrev pub changes_between : Graph → Graph → List Change
changes_between before after = map (λ p. change_to p (entry_at after p)) (changed_places before after)

-- the vertex whose entry it is
abbrev pub vertex_of : Change → ℕ
vertex_of (Label v now) = v
vertex_of (Near v to now) = v

-- vertex v belongs to the shard `v mod shards`
abbrev pub shard_of : ℕ → Change → ℕ
shard_of shards change = vertex_of change % shards

-- the changes at the vertices of one shard
abbrev pub part_of : ℕ → List Change → ℕ → Part
part_of shards changes shard = record { shard = shard; changes = filter (λ change. eqb (shard_of shards change) shard) changes }

abbrev pub is_some_list : List Change → Bool
is_some_list [] = false
is_some_list (change ∷ changes) = true

-- the changes of each shard that has some
abbrev pub parts_of : ℕ → List Change → List Part
parts_of shards changes = filter (λ part. is_some_list part.changes) (map (part_of shards changes) (range_with_len 0 shards))

-- what differs between two graphs, shard by shard
abbrev pub parts_between : Graph → Graph → ℕ → List Part
parts_between before after shards = parts_of shards (changes_between before after)
