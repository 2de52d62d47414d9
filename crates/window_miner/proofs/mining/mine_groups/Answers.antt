use Rattle.std.proofs.Common.{◌≡◌, ◌<◌, ◌+◌, length, refl, sym, ap, subst, ◌∙◌, arith}
use Rattle.std.proofs.lemmas.List.{with_items_is}
use Rattle.cond_eval.specs.meaning.Patterns.{pattern_of}
use Rattle.shard_state.specs.calls.Sharing.{TellGroups}
use Rattle.window_miner.proofs.DeltasInOrder.{mined-all, mined-next, mined-none, told-lent, told-lower}
use Rattle.window_miner.proofs.mining.mine_groups.Goals as goal

pub loop-group-init : goal.loop-group-init
loop-group-init g c = λ graph follows. mined-none (pattern_of c.args.program.now) c.args.most c.args.window.now graph c.sound.ensures c.args.shards.items c.in_ok-deltas.deltas.items follows c.in_ok-deltas.ensures.items

pub take_in-requires-clause-told : goal.take_in-requires-clause-told
take_in-requires-clause-told g c =
    told-lower (pattern_of c.args.program.now) c.args.most c.args.window.now c.requires.can.0 c.sound.ensures c.loop-group.group c.loop-group.shards.items c.deref_mut.result.now c.loop-group.deltas.items
    c.requires.can.1.base (c.loop-group.invariant c.requires.can.0 c.requires.can.1) c.deref_mut.ensures.value (omega arith)

pub mine_group-requires-clause-told : goal.mine_group-requires-clause-told
mine_group-requires-clause-told g c =
    let same : length c.take_in.new.shards ≡ c.loop-group.shards.len = first_of (cc, omega arith) in
    let told = told-lower (pattern_of c.args.program.now) c.args.most c.args.window.now c.requires.can.0 c.sound.ensures c.loop-group.group c.loop-group.shards.items c.deref_mut.result.now c.loop-group.deltas.items
    c.requires.can.1.base (c.loop-group.invariant c.requires.can.0 c.requires.can.1) c.deref_mut.ensures.value (omega arith) in
    subst (TellGroups c.args.window.now (c.loop-group.group + 1) c.loop-group.group) (sym (c.deref.ensures.value ∙ with_items_is c.loop-group.shards c.take_in.new.shards same)) (c.in_ok-take_in.ensures c.loop-group.group told)

pub loop-group-preserved : goal.loop-group-preserved
loop-group-preserved g c = λ graph follows.
    let same : length c.take_in.new.shards ≡ c.loop-group.shards.len = first_of (cc, omega arith) in
    let more : c.loop-group.group < length c.args.window.now.later = omega arith in
    let told = told-lent (pattern_of c.args.program.now) c.args.most c.args.window.now graph c.sound.ensures c.loop-group.group c.loop-group.shards.items c.deref_mut.result.now c.loop-group.deltas.items
    follows.base (c.loop-group.invariant graph follows) c.deref_mut.ensures.value more in
    mined-next (pattern_of c.args.program.now) c.args.most c.args.window.now graph c.sound.ensures c.loop-group.group c.loop-group.shards.items c.deref_mut.result.now c.loop-group.deltas.items
    follows.base (c.loop-group.invariant graph follows) c.deref_mut.ensures.value more
    c.take_in.new.shards _ c.in_ok-delta.delta _ (with_items_is c.loop-group.shards c.take_in.new.shards same) (c.in_ok-take_in.ensures 0 told) c.in_ok-delta.ensures c.in_ok-push.ensures.items

pub returns : goal.returns
returns g c = λ graph follows.
    let same : length c.prune_all.new.shards ≡ c.loop-group.shards.len = first_of (cc, omega arith) in
    let all : c.loop-group.group ≡ length c.args.window.now.later = omega arith in
    mined-all (pattern_of c.args.program.now) c.args.most c.args.window.now graph c.sound.ensures c.loop-group.group c.loop-group.shards.items c.deref_mut-2.result.now c.loop-group.deltas.items
    follows.base (c.loop-group.invariant graph follows) c.deref_mut-2.ensures.value
    c.stamp_after.result c.prune_all.new.shards _ _ all (c.stamp_after.ensures ∙ ap (λ n. c.args.window.now.first + n) c.len-2.ensures) c.prune_all.ensures (with_items_is c.loop-group.shards c.prune_all.new.shards same) refl refl
