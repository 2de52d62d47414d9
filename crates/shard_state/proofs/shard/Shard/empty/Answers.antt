use Rattle.shard_state.specs.storage.KeyedCells.{cells_of}
use Rattle.shard_state.proofs.CellKeys.{cells-empty}
use Rattle.shard_state.proofs.StoredEntries.{IsStored-empty, entries-empty_cells}
use Rattle.shard_state.proofs.shard.Shard.empty.Goals as goal

pub invariant_of-result : goal.invariant_of-result
invariant_of-result c = IsStored-empty (cells_of c.new.result c.new-2.result) c.new-3.result.touches (cells-empty c.new.result c.new-2.result c.new-2.ensures) c.new-3.ensures

pub returns : goal.returns
returns c = λ i. record {
  number = c.new.ensures.number i;
  shards = c.new.ensures.shards i;
  upto = 0;
  floor = 0;
  entries = entries-empty_cells (cells_of c.new.result c.new-2.result) (cells-empty c.new.result c.new-2.result c.new-2.ensures) i;
}
