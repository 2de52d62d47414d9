-- A shard: the vertices of one class of their numbers, through time.
use Rattle.std.specs.Prelude.{◌≡◌, ℕ, ◌+◌, ◌-◌, ◌%◌, eqb, if◌then◌else◌, max, List, [], ◌∷◌, Option, None, Some, unwrap_or, refl}
use Rattle.std.specs.Coded.{Coded, code_by, coded×, coded_list, coded_option, coded_ℕ}
use Rattle.std.specs.FinMap as map
use Rattle.std.specs.List.{filter_map}
use Rattle.graph_types.specs.declared.pair.Pair.{Pair}
use Rattle.graph_types.specs.meaning.Neighbourhood.{Neighbourhood, pair_of}
use Rattle.update_rules.specs.declared.changes.Change.{Change}
use Rattle.update_rules.specs.declared.changes.Change.TheVariants.{Label, Near}
use Rattle.update_rules.specs.meaning.Places.{Place, place_cmp}
use Rattle.version_cell.specs.declared.change.Change.{Change as Version}
use Rattle.version_cell.specs.meaning.Cell.{change_code}
use Rattle.version_cell.specs.meaning.Changes.{IsAfterLast}
use Rattle.version_cell.specs.meaning.Floor.{AscendAbove}
use Rattle.version_cell.specs.meaning.LabelMaps.{label_map}
use Rattle.shard_state.specs.meaning.KnownMaps.{map_of_known}
use Rattle.shard_state.specs.meaning.Versions.{Versions, folded_to, no_versions, some_versions, standing_after, with_version}

-- entries of a graph through time, by their places: each of which something is known
abbrev pub Entries : Type 0
Entries = map.FinMap place_cmp Versions

abbrev pub versions_of : Entries → Place → Versions
versions_of entries p = unwrap_or (map.get entries p) no_versions

-- what contracts see of a shard
pub record ShardValue : Type 0 where
  -- its number, and how many shards there are: vertex v is one of its own where v mod `shards` is `number`
  pub number : ℕ
  pub shards : ℕ
  -- the timestamp of the last part that it took in
  pub upto : ℕ
  -- the timestamp up to which it was pruned: it tells of those after it
  pub floor : ℕ
  pub entries : Entries

-- a shard that has nothing
abbrev pub empty_shard : ℕ → ℕ → ShardValue
empty_shard number shards = record { number = number; shards = shards; upto = 0; floor = 0; entries = map.empty }

abbrev pub IsOwn : ShardValue → ℕ → Type 0
IsOwn shard v = v % shard.shards ≡ shard.number

-- what stood at a place after timestamp t, if anything did
abbrev pub entry_after : ShardValue → Place → ℕ → Option ℕ
entry_after shard p t = standing_after (versions_of shard.entries p) t

-- where the places of v lead, of some places
abbrev pub ends_from : ℕ → List Place → List ℕ
ends_from v places = filter_map (λ p. if eqb p.0 v then p.1 else None) places

-- what v had after timestamp t
abbrev pub neighbourhood_after : ShardValue → ℕ → ℕ → Neighbourhood
neighbourhood_after shard v t = record {
  label = entry_after shard (v, None) t;
  near = label_map (λ w. entry_after shard (v, Some w) t) (ends_from v (map.keys shard.entries));
}

-- what v had before and after timestamp t
abbrev pub pair_of_vertex : ShardValue → ℕ → ℕ → Pair
pair_of_vertex shard v t = pair_of (neighbourhood_after shard v (t - 1)) (neighbourhood_after shard v t)

-- what a vertex has that never was there
abbrev pub no_pair : Pair
no_pair = record { before = None; after = None; near = [] }

-- the place of a changed entry, and what it became
abbrev pub place_of : Change → Place
place_of (Label v now) = (v, None)
place_of (Near v to now) = (v, Some to)

abbrev pub label_of : Change → Option ℕ
label_of (Label v now) = now
label_of (Near v to now) = now

abbrev pub version_of : ℕ → Change → Version
version_of at change = record { at = at; label = label_of change }

-- the entries after some changes, which share a timestamp
abbrev pub with_changes : ℕ → Entries → List Change → Entries
with_changes at entries [] = entries
with_changes at entries (change ∷ changes) =
    with_changes at (map.insert entries (place_of change) (with_version (versions_of entries (place_of change)) (version_of at change))) changes

-- each entry folded to timestamp f, where anything is left of it
abbrev pub folded_entries : ℕ → Entries → Entries
folded_entries f entries = map_of_known place_cmp (λ p. some_versions (folded_to f (versions_of entries p))) (map.keys entries)

-- the shard with the changes of timestamp `at`
abbrev pub applied : ShardValue → List Change → ℕ → ShardValue
applied shard changes at = record { number = shard.number; shards = shard.shards; upto = at; floor = shard.floor; entries = with_changes at shard.entries changes }

-- the shard pruned to timestamp f: it tells of later ones alone
abbrev pub pruned : ShardValue → ℕ → ShardValue
pruned shard f = record { number = shard.number; shards = shard.shards; upto = shard.upto; floor = max shard.floor f; entries = folded_entries (max shard.floor f) shard.entries }

-- The changes of each entry come after the floor, in order, and at the last timestamp at the latest. So of the time up
-- to its floor a shard has one version of each entry, that at the floor.
pub record IsInOrder (shard : ShardValue) : Type 0 where
  pub above : (p : Place) → AscendAbove shard.floor (versions_of shard.entries p).changes
  pub by_last : (p : Place) → IsAfterLast (versions_of shard.entries p).changes (shard.upto + 1)

-- versions and shards are stored as the tuples of their fields
abbrev pub versions_code : Coded Versions
versions_code = code_by (Option ℕ × List Version) (coded× (coded_option coded_ℕ) (coded_list change_code)) (λ v. (v.at_floor, v.changes)) (λ p. record { at_floor = p.0; changes = p.1 }) (λ _. refl)

abbrev pub shard_code : Coded ShardValue
shard_code = code_by ((ℕ × ℕ) × ((ℕ × ℕ) × Entries))
    (coded× (coded× coded_ℕ coded_ℕ) (coded× (coded× coded_ℕ coded_ℕ) (map.code (coded× coded_ℕ (coded_option coded_ℕ)) versions_code)))
    (λ s. ((s.number, s.shards), ((s.upto, s.floor), s.entries)))
    (λ p. record { number = p.0.0; shards = p.0.1; upto = p.1.0.0; floor = p.1.0.1; entries = p.1.1 }) (λ _. refl)
