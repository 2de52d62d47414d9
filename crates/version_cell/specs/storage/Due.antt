-- Changes that come up to a timestamp.
use Rattle.std.specs.Prelude.{ℕ, nat_le, List, length}
use Rattle.std.specs.List.{take_while}
use Rattle.version_cell.specs.declared.change.Change.{Change}

-- how many changes come by t, before the first that comes later
abbrev pub due_count : ℕ → List Change → ℕ
due_count t changes = length (take_while (λ change. nat_le change.at t) changes)
