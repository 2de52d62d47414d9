-- Vertices with labels, as a finite map.
use Rattle.std.specs.Prelude.{ℕ, List, Option}
use Rattle.std.specs.FinMap as map
use Rattle.std.specs.List.{filter_map}
use Rattle.std.specs.Option.{option_map}
use Rattle.std.specs.Ordering.{nat_cmp}

-- those of some vertices that have a label, each with it
abbrev pub label_map : (ℕ → Option ℕ) → List ℕ → map.FinMap nat_cmp ℕ
label_map label_of ws = map.from_entries (filter_map (λ w. option_map (λ label. (w, label)) (label_of w)) ws)
