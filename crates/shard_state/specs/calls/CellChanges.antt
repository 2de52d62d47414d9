-- What the calls that change cells do.
use Rattle.std.specs.Prelude.{◌≡◌, ℕ, ◌<◌, ◌≤◌, false, if◌then◌else◌, eqb, max, List, [], ◌∷◌}
use Rattle.std.specs.Ordering.{eq_by_cmp}
use Rattle.update_rules.specs.declared.changes.Change.{Change}
use Rattle.update_rules.specs.declared.changes.Change.TheVariants.{Label, Near}
use Rattle.update_rules.specs.meaning.Parts.{vertex_of}
use Rattle.update_rules.specs.meaning.Places.{Place, place_cmp}
use Rattle.version_cell.specs.declared.change.Change.{Change as Version}
use Rattle.version_cell.specs.calls.Changing.{with_label_change, with_near_change}
use Rattle.version_cell.specs.meaning.Cell.{Timeline}
use Rattle.version_cell.specs.meaning.Changes.{IsAfterLast}
use Rattle.shard_state.specs.meaning.Shards.{place_of, version_of}
use Rattle.shard_state.specs.meaning.Versions.{Versions, folded_to, with_version}
use Rattle.shard_state.specs.storage.Cells.{Cells, floor_in, room_in, versions_in}

-- the same versions, and no less room: what a reservation leaves
pub record KeepsEntries (old new : Cells) : Type 0 where
  pub versions : (p : Place) → versions_in new p ≡ versions_in old p
  pub room : (p : Place) → room_in old p ≤ room_in new p
  pub floors : (v : ℕ) → floor_in new v ≡ floor_in old v

-- the cell with one change more, of its label or of the edge to a vertex
abbrev pub noted_in_cell : ℕ → Change → Timeline → Timeline
noted_in_cell at (Label v now) cell = with_label_change cell (record { at = at; label = now })
noted_in_cell at (Near v to now) cell = with_near_change cell to (record { at = at; label = now })

-- the versions of the entry at `at`, of which one is noted, and of the entry at another place
abbrev pub noted_at : Place → Version → Place → Versions → Versions
noted_at at version p versions = if eq_by_cmp place_cmp p at then with_version versions version else versions

-- one version more of one entry
pub record NotesVersion (old new : Cells) (at : Place) (version : Version) : Type 0 where
  pub versions : (p : Place) → versions_in new p ≡ noted_at at version p (versions_in old p)
  pub room : (p : Place) → eq_by_cmp place_cmp p at ≡ false → room_in new p ≡ room_in old p
  pub floors : (v : ℕ) → floor_in new v ≡ floor_in old v

-- the versions of the entry at p after some changes, which share a timestamp
abbrev pub noted_all : ℕ → List Change → Place → Versions → Versions
noted_all at [] p versions = versions
noted_all at (change ∷ changes) p versions = noted_all at changes p (noted_at (place_of change) (version_of at change) p versions)

-- the cell of v is folded to f, and the others stay
pub record FoldsCell (old new : Cells) (v f : ℕ) : Type 0 where
  pub own : (p : Place) → p.0 ≡ v → versions_in new p ≡ folded_to (max (floor_in old v) f) (versions_in old p)
  pub others : (p : Place) → eqb p.0 v ≡ false → versions_in new p ≡ versions_in old p
  pub own_floor : floor_in new v ≤ max (floor_in old v) f
  pub floors : (w : ℕ) → eqb w v ≡ false → floor_in new w ≡ floor_in old w

-- the change can be noted now
pub record IsReady (cells : Cells) (at : ℕ) (change : Change) : Type 0 where
  pub room : 0 < room_in cells (place_of change)
  pub above : floor_in cells (vertex_of change) < at
  pub later : IsAfterLast (versions_in cells (place_of change)).changes at
