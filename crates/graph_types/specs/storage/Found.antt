-- Some vertices, looked up among the neighbours in two graphs.
use Rattle.std.specs.Prelude.{ℕ, Bool, ◌||◌, is_some, List, map as mapped, filter}
use Rattle.std.specs.FinMap as map
use Rattle.std.specs.Ordering.{nat_cmp}
use Rattle.graph_types.specs.declared.near.Near.{Near}
use Rattle.graph_types.specs.meaning.Neighbourhood.{near_at}

-- an edge leads there in one graph at least
abbrev pub is_near : Near → Bool
is_near near = is_some near.before || is_some near.after

-- those of the vertices that are near before or after, each with both labels
abbrev pub near_found : map.FinMap nat_cmp ℕ → map.FinMap nat_cmp ℕ → List ℕ → List Near
near_found before after among = filter is_near (mapped (near_at before after) among)
