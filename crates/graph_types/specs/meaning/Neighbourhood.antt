-- What a vertex has in one graph, and in two.
use Rattle.std.specs.Prelude.{ℕ, Bool, List, ◌++◌, map as mapped, filter, Option, eqb}
use Rattle.std.specs.FinMap as map
use Rattle.std.specs.List.{filter_map, list_any}
use Rattle.std.specs.Option.{option_map}
use Rattle.std.specs.Ordering.{nat_cmp}
use Rattle.graph_types.specs.declared.near.Near.{Near}
use Rattle.graph_types.specs.declared.pair.Pair.{Pair}
use Rattle.graph_types.specs.meaning.Graph.{Graph, label_between, vertices_of}

-- the label of a vertex, if it is there, and the vertices that an edge joins with it, each with the label
-- of that edge
pub record Neighbourhood : Type 0 where
  pub label : Option ℕ
  pub near : map.FinMap nat_cmp ℕ

-- what a graph has at v
abbrev pub neighbourhood_of : Graph → ℕ → Neighbourhood
neighbourhood_of g v = record {
  label = map.get g.labels v;
  near = map.from_entries (filter_map (λ w. option_map (λ label. (w, label)) (label_between g v w)) (vertices_of g));
}

module _ (before after : map.FinMap nat_cmp ℕ) where
  -- the vertices that are near before or after, ascending
  abbrev pub either_near : List ℕ
  either_near = map.keys (map.from_entries {R = nat_cmp} (map.entries before ++ map.entries after))

  -- a vertex with the label that it is near by before, and after
  abbrev pub near_at : ℕ → Near
  near_at w = record { to = w; before = map.get before w; after = map.get after w }

  -- the vertices that are near before or after, ascending, each with both labels
  abbrev pub near_of : List Near
  near_of = mapped near_at either_near

-- a vertex that has one neighbourhood before and another after
abbrev pub pair_of : Neighbourhood → Neighbourhood → Pair
pair_of before after = record {
  before = before.label;
  after = after.label;
  near = near_of before.near after.near;
}

-- what v has in two graphs
abbrev pub pair_in : Graph → Graph → ℕ → Pair
pair_in before after v = pair_of (neighbourhood_of before v) (neighbourhood_of after v)

-- the neighbour is among these vertices
abbrev pub leads_among : List ℕ → Near → Bool
leads_among among near = list_any (eqb near.to) among

-- the pair with those of its neighbours that are among these vertices
abbrev pub kept_among : List ℕ → Pair → Pair
kept_among among pair = record { before = pair.before; after = pair.after; near = filter (leads_among among) pair.near }
