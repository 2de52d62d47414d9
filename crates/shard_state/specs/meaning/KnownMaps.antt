-- Finite maps, by what is known of each of some keys.
use Rattle.std.specs.Prelude.{List, Option}
use Rattle.std.specs.FinMap as map
use Rattle.std.specs.List.{filter_map}
use Rattle.std.specs.Option.{option_map}
use Rattle.std.specs.declared.cmp.Ordering.{Ordering}

-- those of some keys of which something is known, each with it
abbrev pub map_of_known : {K X : Type 0} (R : K → K → Ordering) → (K → Option X) → List K → map.FinMap R X
map_of_known R known ks = map.from_entries {R = R} (filter_map (λ k. option_map (λ x. (k, x)) (known k)) ks)
