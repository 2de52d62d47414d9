use Rattle.std.proofs.Common.{subst}
use Rattle.shard_state.specs.meaning.Shards.{IsInOrder}
use Rattle.shard_state.specs.storage.KeyedCells.{cells_of}
use Rattle.shard_state.proofs.Storing.{IsInOrder-stored}
use Rattle.shard_state.proofs.shard.Shard.in_order.Goals as goal

pub returns : goal.returns
returns c =
    let s = c.self.inside in
    subst IsInOrder c.self.view_is (IsInOrder-stored s.floor s.upto (cells_of s.class s.cells) s.touched.touches c.self.invariant s.class.number s.class.shards)
