use Rattle.std.proofs.Common.{◌≡◌}
use Rattle.std.specs.Slice.Iter.{iter_rest}
use Rattle.version_cell.specs.meaning.Changes.{label_after}
use Rattle.version_cell.proofs.changes.Changes.label_after.Given as goal

abbrev pub invariant-loop-change : goal.invariant-loop-change
invariant-loop-change l = label_after l.label (iter_rest l.change-iterator) l.t ≡ label_after l.fn.at_floor l.self.changes l.t
