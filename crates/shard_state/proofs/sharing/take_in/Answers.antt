use Rattle.std.proofs.Common.{◌∙◌, arith}
use Rattle.std.proofs.lemmas.Result.{on_ok_weaker}
use Rattle.shard_state.proofs.TellingOn.{FitTogether-group, TellGroups-next}
use Rattle.shard_state.proofs.sharing.take_in.Goals as goal

pub overflow_add-group : goal.overflow_add-group
overflow_add-group c = let few = c.sound.ensures.few in omega (arith, few)

pub apply_parts-requires : goal.apply_parts-requires
apply_parts-requires c =
    FitTogether-group c.args.window.now c.args.group c.args.group c.args.shards.now c.requires.told c.requires.within c.deref.result.now c.stamp_after-at.result (c.deref.ensures ∙ c.parts_of.ensures) c.stamp_after-at.ensures

pub returns : goal.returns
returns c = λ floor tell.
    on_ok_weaker c.apply_parts.result
    (TellGroups-next c.args.window.now c.args.group floor c.args.shards.now tell c.requires.within c.deref.result.now c.stamp_after-at.result (c.deref.ensures ∙ c.parts_of.ensures) c.stamp_after-at.ensures c.apply_parts.new.shards)
    c.apply_parts.ensures
