use Rattle.std.proofs.Common.{◌≡◌}
use Rattle.std.specs.Slice.Iter.{iter_rest}
use Rattle.version_cell.specs.meaning.Changes.{changes_after}
use Rattle.version_cell.specs.storage.Tracks.{is_changed}
use Rattle.version_cell.proofs.changes.Changes.goes_past.Given as goal

abbrev pub invariant-loop-change : goal.invariant-loop-change
invariant-loop-change l = is_changed (changes_after (iter_rest l.change-iterator) l.t) ≡ is_changed (changes_after l.self.changes l.t)
