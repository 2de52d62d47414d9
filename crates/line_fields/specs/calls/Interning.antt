-- What a call of `intern` does.
use Rattle.std.specs.Prelude.{◌≡◌, ◌<◌, ℕ, List, length, None, Some, Result, Ok, Err}
use Rattle.line_fields.specs.meaning.Names.{Names, most_names, number_in, interning}
use Rattle.line_fields.specs.declared.names.NameFault.{NameFault}
use Rattle.line_fields.specs.declared.names.NameFault.TheVariants as fault

-- The name has its number and the names are those then. Or they are as they were, and there is no room for
-- a name more, or memory ran out for one for which there is room.
abbrev pub Interns : Names → List ℕ → Result ℕ NameFault → Names → Type 0
Interns old name (Ok n) new = interning old name ≡ Some (n, new)
Interns old name (Err fault.TooManyLabels) new = (new ≡ old) × (interning old name ≡ None)
Interns old name (Err fault.NoMemory) new =
    (new ≡ old) × (number_in old name ≡ None) × (length old < most_names)
