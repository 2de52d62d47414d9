-- Edges around a timestamp.
use Rattle.std.specs.Prelude.{ℕ, ◌-◌, List, map as mapped, filter, Option}
use Rattle.std.specs.FinMap as map
use Rattle.std.specs.Ordering.{nat_cmp}
use Rattle.graph_types.specs.declared.near.Near.{Near}
use Rattle.graph_types.specs.storage.Found.{is_near}
use Rattle.version_cell.specs.meaning.Cell.{changes_of}
use Rattle.version_cell.specs.meaning.Changes.{Track, label_after}
use Rattle.version_cell.specs.storage.Places.{Places, place_label}

-- the edge to a vertex before and after timestamp t, from its label at the floor, where these are its changes
abbrev pub edge_with : Option Track → ℕ → ℕ × Option ℕ → Near
edge_with track t place = record {
  to = place.0;
  before = label_after place.1 (changes_of track) (t - 1);
  after = label_after place.1 (changes_of track) t;
}

module _ (near : map.FinMap nat_cmp Track) (t : ℕ) where
  -- the same where its changes are among those of all edges
  abbrev pub edge_around : ℕ × Option ℕ → Near
  edge_around place = edge_with (map.get near place.0) t place

  -- the edges that are there before or after timestamp t, from their labels at the floor
  abbrev pub near_of_places : List (ℕ × Option ℕ) → List Near
  near_of_places places = filter is_near (mapped edge_around places)

  -- the same of the edges to some vertices
  abbrev pub near_of_vertices : Places → List ℕ → List Near
  near_of_vertices places ws = filter is_near (mapped (λ w. edge_around (w, place_label places w)) ws)
