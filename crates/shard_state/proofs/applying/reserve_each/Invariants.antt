use Rattle.std.proofs.Common.{◌<◌, take}
use Rattle.std.specs.List.{AllByRecursion}
use Rattle.shard_state.specs.calls.CellChanges.{KeepsEntries}
use Rattle.shard_state.specs.meaning.Shards.{place_of}
use Rattle.shard_state.specs.storage.Cells.{room_in}
use Rattle.shard_state.specs.storage.KeyedCells.{cells_of}
use Rattle.shard_state.proofs.applying.reserve_each.Given as goal

abbrev pub invariant-loop-change : goal.invariant-loop-change
invariant-loop-change l = record {
  kept : KeepsEntries (cells_of l.class l.fn.cells) (cells_of l.class l.cells);
  ready : AllByRecursion (λ change. 0 < room_in (cells_of l.class l.cells) (place_of change)) (take l.change-index l.changes);
}
