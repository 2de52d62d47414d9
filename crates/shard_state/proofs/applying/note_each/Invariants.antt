use Rattle.std.proofs.Common.{drop}
use Rattle.shard_state.specs.storage.KeyedCells.{cells_of}
use Rattle.shard_state.proofs.NotingEach.{IsNoting}
use Rattle.shard_state.proofs.applying.note_each.Given as goal

abbrev pub invariant-loop-change : goal.invariant-loop-change
invariant-loop-change l = IsNoting l.at (cells_of l.class l.fn.cells) (cells_of l.class l.cells) l.fn.touched.touches l.touched.touches l.touched.room l.changes (drop l.change-index l.changes)
