use Rattle.std.proofs.Common.{ℕ, ◌≤◌, length}
use Rattle.shard_state.specs.storage.KeyedCells.{cells_of}
use Rattle.shard_state.specs.storage.Touched.{IsStored}
use Rattle.shard_state.proofs.Pruning.{IsFolding}
use Rattle.shard_state.proofs.applying.fold_touched.Given as goal

abbrev pub invariant-loop-v : goal.invariant-loop-v
invariant-loop-v l = (f u : ℕ) → IsStored f u (cells_of l.class l.fn.cells) l.fn.touched.touches → f ≤ l.floor → IsFolding u l.floor (cells_of l.class l.fn.cells) (cells_of l.class l.cells) l.touched.touches

abbrev pub decreases-loop-v : goal.decreases-loop-v
decreases-loop-v l = length l.touched.touches
