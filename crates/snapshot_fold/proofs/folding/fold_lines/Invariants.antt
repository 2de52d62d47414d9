-- Between two lines the fold stands where its lines led, and each line more is one of those allowed.
use Rattle.std.proofs.Common.{◌-◌, ◌≤◌}
use Rattle.snapshot_fold.specs.calls.Standing.{Stands}
use Rattle.snapshot_fold.proofs.folding.fold_lines.Given as goal

abbrev pub invariant-lines : goal.invariant-lines
invariant-lines g l = record {
  stands : Stands l.fn.most_lines l.fn.at (g.S.Source.left l.fn.input) (g.S.Source.left l.input) l.reader l.fold;
  kept : g.S.Source.faults l.fn.input ≤ g.S.Source.faults l.input;
}

abbrev pub decreases-lines : goal.decreases-lines
decreases-lines g l = l.fn.most_lines - l.reader.number
