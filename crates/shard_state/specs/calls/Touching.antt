-- What is taken out of the list of what changed.
use Rattle.std.specs.Prelude.{◌≡◌, ℕ, ◌≤◌, nat_le, Bool, false, IsFalse, List, [], ◌∷◌, Option, None, Some}
use Rattle.shard_state.specs.declared.touch.Touch.{Touch}

-- the first comes by t
abbrev pub begins_by : ℕ → List Touch → Bool
begins_by t [] = false
begins_by t (touch ∷ later) = nat_le touch.at t

-- the first is taken out where it comes by t
abbrev pub TakesDue : List Touch → ℕ → Option ℕ → List Touch → Type 0
TakesDue old t None new = (new ≡ old) × IsFalse (begins_by t old)
TakesDue old t (Some v) new = (at : ℕ) × (at ≤ t) × (old ≡ record { at = at; vertex = v } ∷ new)
