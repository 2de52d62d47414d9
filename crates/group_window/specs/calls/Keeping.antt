-- What is kept of the entries of a graph.
use Rattle.std.specs.Prelude.{ℕ, IsTrue, Option, is_some}
use Rattle.std.specs.BTreeMap.{BTreeMap, get}
use Rattle.update_rules.specs.meaning.Places.{Place, place_cmp}

-- the first map has each place that the second has
abbrev pub HasPlaces : BTreeMap Place (Option ℕ) → BTreeMap Place (Option ℕ) → Type 0
HasPlaces more fewer = (p : Place) → IsTrue (is_some (get place_cmp fewer p)) → IsTrue (is_some (get place_cmp more p))
