-- One vertex through time.
use Rattle.std.specs.Prelude.{◌≡◌, ℕ, ◌-◌, List, [], ◌++◌, Option, None, Some, refl}
use Rattle.std.specs.Coded.{Coded, code_by, coded×, coded_list, coded_option, coded_ℕ}
use Rattle.std.specs.FinMap as map
use Rattle.std.specs.Ordering.{nat_cmp}
use Rattle.graph_types.specs.declared.pair.Pair.{Pair}
use Rattle.graph_types.specs.meaning.Neighbourhood.{Neighbourhood, pair_of}
use Rattle.version_cell.specs.declared.change.Change.{Change}
use Rattle.version_cell.specs.meaning.Changes.{Track, label_after}
use Rattle.version_cell.specs.meaning.LabelMaps.{label_map}

-- what stood at the floor, and the changes since, of the label and of the edge to each other vertex
pub record Timeline : Type 0 where
  pub floor : ℕ
  pub at_floor : Neighbourhood
  pub label : Track
  pub near : map.FinMap nat_cmp Track

-- the changes of the edge to w
abbrev pub changes_of : Option Track → List Change
changes_of None = []
changes_of (Some track) = track.changes

abbrev pub room_of : Option Track → ℕ
room_of None = 0
room_of (Some track) = track.room

module _ (cell : Timeline) (t : ℕ) where
  -- the label of the edge to w after timestamp t, if there was one
  abbrev pub near_after : ℕ → Option ℕ
  near_after w = label_after (map.get cell.at_floor.near w) (changes_of (map.get cell.near w)) t

  -- what stood after timestamp t
  abbrev pub neighbourhood_after : Neighbourhood
  neighbourhood_after = record {
    label = label_after cell.at_floor.label cell.label.changes t;
    near = label_map near_after (map.keys cell.at_floor.near ++ map.keys cell.near);
  }

-- what the vertex had before and after timestamp t
abbrev pub pair_at : Timeline → ℕ → Pair
pair_at cell t = pair_of (neighbourhood_after cell (t - 1)) (neighbourhood_after cell t)

-- no label and no edge at the floor, and no change since, nor a list for the changes of an edge
pub record HasNothing (cell : Timeline) : Type 0 where
  pub label : cell.at_floor.label ≡ None
  pub near : cell.at_floor.near ≡ map.empty
  pub label_changes : cell.label.changes ≡ []
  pub near_changes : cell.near ≡ map.empty

-- changes, tracks, neighbourhoods and timelines are stored as the tuples of their fields
abbrev pub change_code : Coded Change
change_code = code_by (ℕ × Option ℕ) (coded× coded_ℕ (coded_option coded_ℕ)) (λ c. (c.at, c.label)) (λ p. record { at = p.0; label = p.1 }) (λ _. refl)

abbrev pub track_code : Coded Track
track_code = code_by (List Change × ℕ) (coded× (coded_list change_code) coded_ℕ) (λ t. (t.changes, t.room)) (λ p. record { changes = p.0; room = p.1 }) (λ _. refl)

abbrev pub neighbourhood_code : Coded Neighbourhood
neighbourhood_code = code_by (Option ℕ × map.FinMap nat_cmp ℕ) (coded× (coded_option coded_ℕ) (map.code coded_ℕ coded_ℕ)) (λ n. (n.label, n.near)) (λ p. record { label = p.0; near = p.1 }) (λ _. refl)

abbrev pub timeline_code : Coded Timeline
timeline_code = code_by ((ℕ × Neighbourhood) × (Track × map.FinMap nat_cmp Track))
    (coded× (coded× coded_ℕ neighbourhood_code) (coded× track_code (map.code coded_ℕ track_code)))
    (λ c. ((c.floor, c.at_floor), (c.label, c.near)))
    (λ p. record { floor = p.0.0; at_floor = p.0.1; label = p.1.0; near = p.1.1 }) (λ _. refl)
