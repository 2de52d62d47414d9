-- Neighbours in a short list, each with a value, ascending.
use Rattle.std.specs.Prelude.{◌≡◌, ℕ, suc, cond, nat_lt, List, [], ◌∷◌, Some, Result, Ok, Err, slice_get}
use Rattle.std.specs.List.Sorted.{IsStrictlySortedBy}
use Rattle.std.specs.Map.{keys_of}
use Rattle.std.specs.Ordering.{nat_cmp}

abbrev pub Pairs : Type 0 → Type 0
Pairs V = List (ℕ × V)

module _ {V : Type 0} where
  abbrev pub IsAscending : Pairs V → Type 0
  IsAscending pairs = IsStrictlySortedBy nat_cmp (keys_of pairs)

  -- how many neighbours stand before v
  abbrev pub place_of : Pairs V → ℕ → ℕ
  place_of [] v = 0
  place_of (n ∷ pairs) v = cond (nat_lt n.0 v) (suc (place_of pairs v)) 0

  -- v stands at its place
  abbrev pub StandsIn : Pairs V → ℕ → Type 0
  StandsIn pairs v = (value : V) × (slice_get pairs (place_of pairs v) ≡ Some (v, value))

  -- the place of v, and whether it stands there
  abbrev pub IsSought : Pairs V → ℕ → Result ℕ ℕ → Type 0
  IsSought pairs v (Ok at) = (at ≡ place_of pairs v) × StandsIn pairs v
  IsSought pairs v (Err at) = (at ≡ place_of pairs v) × ¬ StandsIn pairs v
