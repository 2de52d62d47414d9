-- The test of a list for strict order.
use Rattle.std.specs.Prelude.{Bool, true, ◌&&◌, List, [], ◌∷◌}
use Rattle.std.specs.Ordering.{is_lt}
use Rattle.std.specs.declared.cmp.Ordering.{Ordering}

-- each item stands before the next
abbrev pub is_ascending : {A : Type 0} → (A → A → Ordering) → List A → Bool
is_ascending R [] = true
is_ascending R (x ∷ []) = true
is_ascending R (x ∷ y ∷ xs) = is_lt (R x y) && is_ascending R (y ∷ xs)
