-- What an iterator over neighbours has left.
use Rattle.std.specs.Prelude.{ℕ, List}
use Rattle.std.specs.Slice.Iter.{iter_rest}
use Rattle.graph_types.specs.declared.entries.Left.{Left}
use Rattle.graph_types.specs.declared.entries.Left.TheVariants.{Few, Many}

-- the neighbours that are still to come, each with its value
abbrev pub pairs_left : {V : Type 0} → Left V → List (ℕ × V)
pairs_left (Few few) = iter_rest few
pairs_left (Many many) = many
