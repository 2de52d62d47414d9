-- What an iterator over the items gives.
use Rattle.std.specs.Prelude.{ℕ}
use Rattle.std.specs.Borrow.{Bor}

-- an id with the item that is lent beside it
abbrev pub entry_of : {T : Type 0} → ℕ × Bor T → ℕ × T
entry_of p = (p.0, p.1.now)
