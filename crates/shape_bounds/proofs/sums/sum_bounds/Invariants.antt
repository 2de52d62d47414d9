use Rattle.std.proofs.Common.{◌≡◌, ◌≤◌, ◌*◌, take}
use Rattle.shape_bounds.specs.meaning.Bounds.{least_value, most_value}
use Rattle.shape_bounds.proofs.sums.sum_bounds.Given as goal

abbrev pub invariant-loop-factor : goal.invariant-loop-factor
invariant-loop-factor l =
    ((l.least ≡ least_value (take l.factor-index l.sum) l.vertices l.edges) × (l.least ≤ l.factor-index * 3600))
    × ((l.most ≡ most_value (take l.factor-index l.sum) l.vertices l.edges) × (l.most ≤ l.factor-index * 3600))
