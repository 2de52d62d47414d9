-- What an iterator over neighbours gives.
use Rattle.std.specs.Prelude.{ℕ}
use Rattle.std.specs.Borrow.{Bor}

-- a neighbour with the value that is lent beside it
abbrev pub entry_of : {V : Type 0} → ℕ × Bor V → ℕ × V
entry_of p = (p.0, p.1.now)
