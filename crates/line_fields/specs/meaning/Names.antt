-- The names of labels that were seen so far, in the order in which they came. A name's place among them is
-- its number.
use Rattle.std.specs.Prelude.{◌≡◌, ◌≤◌, ℕ, List, [], ◌∷◌, ◌++◌, codes, length, position, slice_get, true, nat_lt, Option, None, Some, if◌then◌else◌}
use Rattle.std.specs.Str.{bytes_eq}
use Rattle.std.specs.List.{list_all}
use Rattle.line_fields.specs.meaning.Fields.{is_label_word}

abbrev pub Names : Type 0
Names = List (List ℕ)

-- the label of what is added without one
abbrev pub no_name : List ℕ
no_name = codes "_"

-- the names before any label was seen
abbrev pub first_names : Names
first_names = no_name ∷ []

-- how many names there can be, `_` among them
abbrev pub most_names : ℕ
most_names = 4096

-- the number of a name, where it is known
abbrev pub number_in : Names → List ℕ → Option ℕ
number_in names name = position (bytes_eq name) names

-- a new name goes to the end, where there is room for it
abbrev pub with_name : Names → List ℕ → Option ℕ → Option (ℕ × Names)
with_name names name (Some n) = Some (n, names)
with_name names name None = if nat_lt (length names) most_names then Some (length names, names ++ name ∷ []) else None

-- the number of a name and the names then; none where the name is new and there is no room for it
abbrev pub interning : Names → List ℕ → Option (ℕ × Names)
interning names name = with_name names name (number_in names name)

-- labels, of which `_` is the first, no two are the same, and there are not too many
pub record AreNames (names : Names) : Type 0 where
  pub first : slice_get names 0 ≡ Some no_name
  pub labels : list_all is_label_word names ≡ true
  pub distinct : (i : ℕ) (name : List ℕ) → slice_get names i ≡ Some name → number_in names name ≡ Some i
  pub few : length names ≤ most_names
