use Rattle.std.proofs.Common.{arith}
use Rattle.rehearsal.specs.meaning.Kinds.{event_of_shard}
use Rattle.rehearsal.proofs.Growing.{listed-next}
use Rattle.rehearsal.proofs.listing.ShardKind.add_all.Goals as goal

pub loop-s-preserved : goal.loop-s-preserved
loop-s-preserved c =
    listed-next (event_of_shard c.args.self) 0 c.loop-s.s c.loop-s.s c.args.events.now c.loop-s.events c.push.new.self c.of.result (omega arith) c.of.ensures c.loop-s.invariant c.in_ok-push.ensures.ok
