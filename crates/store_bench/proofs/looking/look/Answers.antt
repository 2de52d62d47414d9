use Rattle.std.proofs.Common.{length, subst, sym, arith}
use Rattle.shard_state.specs.calls.Viewing.{CanBeViewed}
use Rattle.shard_state.specs.meaning.Telling.{graphs_of}
use Rattle.shard_state.proofs.TellingOn.{CanBeViewed-taken}
use Rattle.store_bench.proofs.looking.look.Goals as goal

pub new-view-requires : goal.new-view-requires
new-view-requires c =
    let w = c.args.window.now in
    subst (CanBeViewed c.args.shards.now) (sym c.stamp_after.ensures)
    (CanBeViewed-taken (graphs_of w) (length w.later) 0 c.args.shards.now c.requires.tell c.loop-group.group (omega arith) (omega arith))
