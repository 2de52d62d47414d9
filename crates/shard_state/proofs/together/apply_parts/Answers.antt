use Rattle.std.proofs.Common.{ap, set, ◌∙◌, arith}
use Rattle.std.proofs.lemmas.List.{drop_all, get_or_default}
use Rattle.shard_state.specs.meaning.Shards.{applied, empty_shard}
use Rattle.shard_state.proofs.GroupsTogether.{taking-at, taking-done, taking-init, taking-step}
use Rattle.shard_state.proofs.together.apply_parts.Goals as goal

pub loop-part-init : goal.loop-part-init
loop-part-init c = taking-init _ _ _ c.requires

pub loop-part-preserved : goal.loop-part-preserved
loop-part-preserved c =
    let part = c.part-item.result in
    let taking = taking-at c.args.at c.args.shards.now c.loop-part.shards c.args.parts.now c.loop-part.part-index part c.loop-part-test.true c.part-item.is c.loop-part.invariant in
    taking-step c.args.at c.args.shards.now c.loop-part.shards _ c.args.parts.now _ part taking
    (ap (set c.loop-part.shards part.shard)
    (c.in_ok-apply.ensures.ok ∙ ap (λ shard. applied shard part.changes c.args.at) (get_or_default c.loop-part.shards part.shard c.index-shards-part.result (empty_shard 0 1) taking.fit.each.0.there)))

pub returns : goal.returns
returns c = taking-done c.args.at c.args.shards.now c.loop-part.shards c.args.parts.now _ (drop_all c.loop-part.part-index c.args.parts.now (omega arith)) c.loop-part.invariant
