-- What a counted size says of a condition as it is written.
use Rattle.std.specs.Prelude.{◌≡◌, ℕ, ◌-◌, ◌^◌, min}
use Rattle.conditions.specs.declared.size.Size.{Size}
use Rattle.conditions.specs.meaning.Written.{WrittenSize}

-- the last number that a count takes
abbrev pub last_count : ℕ
last_count = 2 ^ 32 - 1

-- how tightly it binds, and its counts as far as the last number
pub record IsSizeOf (w : WrittenSize) (size : Size) : Type 0 where
  pub binding : size.binding ≡ w.binding
  pub tokens : size.tokens ≡ min w.tokens last_count
  pub depth : size.depth ≡ min w.depth last_count
