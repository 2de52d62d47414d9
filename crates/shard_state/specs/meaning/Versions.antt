-- One entry of a graph through time: the label of a vertex, or of the edge between two.
use Rattle.std.specs.Prelude.{ℕ, List, [], ◌∷◌, ◌++◌, Option, None, Some}
use Rattle.version_cell.specs.declared.change.Change.{Change}
use Rattle.version_cell.specs.meaning.Changes.{changes_after, label_after}

-- what stood there at the floor, if anything did, and what it became since, in the order of the timestamps
pub record Versions : Type 0 where
  pub at_floor : Option ℕ
  pub changes : List Change

-- of an entry of which nothing is known: nothing ever stood there
abbrev pub no_versions : Versions
no_versions = record { at_floor = None; changes = [] }

-- what stood there after timestamp t, if anything did
abbrev pub standing_after : Versions → ℕ → Option ℕ
standing_after versions t = label_after versions.at_floor versions.changes t

-- one change more
abbrev pub with_version : Versions → Change → Versions
with_version versions change = record { at_floor = versions.at_floor; changes = versions.changes ++ change ∷ [] }

-- folded to timestamp f: what stood there then, and the changes after it
abbrev pub folded_to : ℕ → Versions → Versions
folded_to f versions = record { at_floor = standing_after versions f; changes = changes_after versions.changes f }

abbrev pub some_of : Option ℕ → List Change → Option Versions
some_of None [] = None
some_of None (change ∷ later) = Some (record { at_floor = None; changes = change ∷ later })
some_of (Some label) changes = Some (record { at_floor = Some label; changes = changes })

-- the versions, where there is one
abbrev pub some_versions : Versions → Option Versions
some_versions versions = some_of versions.at_floor versions.changes
