-- The entries of a graph, told at each vertex.
use Rattle.std.specs.Prelude.{ℕ, Bool, not, eqb, List, ◌∷◌, map, Option, None, Some}
use Rattle.std.specs.FinMap as finite
use Rattle.std.specs.List.{flat_map}
use Rattle.std.specs.Option.{option_cmp, option_eq}
use Rattle.std.specs.Ordering.{nat_cmp, ordering_then}
use Rattle.std.specs.declared.cmp.Ordering.{Ordering}
use Rattle.graph_types.specs.meaning.Graph.{Graph, label_between}

-- where an entry stands: at a vertex alone its label, at a vertex and another the label of the edge that
-- leads there
abbrev pub Place : Type 0
Place = ℕ × Option ℕ

-- by vertex; its label stands first, and then its edges by where they lead
abbrev pub place_cmp : Place → Place → Ordering
place_cmp p q = ordering_then (nat_cmp p.0 q.0) (option_cmp nat_cmp p.1 q.1)

abbrev pub label_at : Graph → ℕ → Option ℕ → Option ℕ
label_at g v None = finite.get g.labels v
label_at g v (Some to) = label_between g v to

-- what stands at a place, if anything does
abbrev pub entry_at : Graph → Place → Option ℕ
entry_at g p = label_at g p.0 p.1

-- the graphs have different entries at the place, or one of them alone has one
abbrev pub entry_differs : Graph → Graph → Place → Bool
entry_differs before after p = not (option_eq eqb (entry_at before p) (entry_at after p))

-- the place of a vertex's label, and those of its edges to some vertices
abbrev pub places_of : List ℕ → ℕ → List Place
places_of others v = (v, None) ∷ map (λ to. (v, Some to)) others

-- the places of each of some vertices, for edges among them
abbrev pub places_among : List ℕ → List Place
places_among vs = flat_map (places_of vs) vs
