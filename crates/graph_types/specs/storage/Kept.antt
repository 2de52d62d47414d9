-- Neighbours, as they are kept.
use Rattle.std.specs.Prelude.{ℕ, List}
use Rattle.std.specs.FinMap as map
use Rattle.std.specs.Ordering.{nat_cmp}
use Rattle.graph_types.specs.declared.neighbours.Kept.{Kept}
use Rattle.graph_types.specs.declared.neighbours.Kept.TheVariants.{Few, Many}

module _ {V : Type 0} where
  -- each neighbour with its value
  abbrev pub pairs_of : Kept V → List (ℕ × V)
  pairs_of (Few few) = few.items
  pairs_of (Many many) = many.entries

  -- the value of each neighbour
  abbrev pub map_of : Kept V → map.FinMap nat_cmp V
  map_of kept = map.from_entries (pairs_of kept)
