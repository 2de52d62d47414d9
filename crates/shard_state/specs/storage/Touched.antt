-- Which vertices changed, and when.
use Rattle.std.specs.Prelude.{ℕ, ◌<◌, ◌≤◌, List, [], ◌∷◌, map as mapped}
use Rattle.std.specs.List.{AllByRecursion}
use Rattle.shared_lemmas.specs.meaning.Membership.{IsIn}
use Rattle.update_rules.specs.declared.changes.Change.{Change}
use Rattle.update_rules.specs.meaning.Parts.{vertex_of}
use Rattle.update_rules.specs.meaning.Places.{Place}
use Rattle.version_cell.specs.declared.change.Change.{Change as Version}
use Rattle.version_cell.specs.meaning.Floor.{AscendAbove}
use Rattle.shard_state.specs.declared.touch.Touch.{Touch}
use Rattle.shard_state.specs.storage.Cells.{Cells, floor_in, versions_in}

-- the changes, and how many more can be noted with no memory
pub record TouchedValue : Type 0 where
  pub touches : List Touch
  pub room : ℕ

abbrev pub touch_of : ℕ → Change → Touch
touch_of at change = record { at = at; vertex = vertex_of change }

-- one for each of some changes
abbrev pub touches_of : ℕ → List Change → List Touch
touches_of at changes = mapped (touch_of at) changes

-- they come in the order of their timestamps
abbrev pub AreRising : List Touch → Type 0
AreRising [] = Unit {0}
AreRising (touch ∷ later) = AllByRecursion (λ next. touch.at ≤ next.at) later × AreRising later

-- after timestamp f, and by timestamp u
abbrev pub AreBetween : ℕ → ℕ → List Touch → Type 0
AreBetween f u touches = AllByRecursion (λ touch. (f < touch.at) × (touch.at ≤ u)) touches

-- each of the changes of an entry at v is among them
abbrev pub AreNoted : List Touch → ℕ → List Version → Type 0
AreNoted touches v changes = AllByRecursion (λ change. IsIn (record { at = change.at; vertex = v }) touches) changes

-- What is stored of a shard with floor f and last timestamp u. A cell may have an older floor, where nothing changed
-- at its vertex since.
pub record IsStored (f u : ℕ) (cells : Cells) (touches : List Touch) : Type 0 where
  pub floors : (v : ℕ) → floor_in cells v ≤ f
  pub ascending : (p : Place) → AscendAbove (floor_in cells p.0) (versions_in cells p).changes
  pub noted : (p : Place) → AreNoted touches p.0 (versions_in cells p).changes
  pub rising : AreRising touches
  pub between : AreBetween f u touches
