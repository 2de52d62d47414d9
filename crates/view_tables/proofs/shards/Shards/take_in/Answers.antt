use Rattle.std.proofs.Common.{◌≡◌, ◌≤◌, ◌+◌, ℕ, List, length, refl, sym, subst, arith}
use Rattle.std.proofs.lemmas.List.{with_items_is}
use Rattle.shard_state.specs.calls.Sharing.{TellGroups}
use Rattle.shard_state.specs.meaning.Shards.{ShardValue}
use Rattle.shard_state.proofs.TellingOn.{TellGroups-lower}
use Rattle.view_tables.proofs.shards.Shards.take_in.Goals as goal

pub take_in-requires : goal.take_in-requires
take_in-requires c =
    let s = c.loop-group.self in
    let w = c.args.window.now in
    let here = subst (λ (t : ℕ). TellGroups w t s.floor s.items.items) c.loop-group.invariant.taken c.loop-group.invariant.told in
    record {
      within = omega arith;
      told = subst (TellGroups w c.loop-group.group c.loop-group.group) (sym c.deref_mut.ensures.value) (TellGroups-lower w c.loop-group.group s.floor s.items.items here);
    }

pub loop-group-preserved : goal.loop-group-preserved
loop-group-preserved c =
    let s = c.loop-group.self in
    let w = c.args.window.now in
    let new = c.take_in.new.shards in
    let same : length new ≡ s.items.len = first_of (cc, omega arith) in
    let here = subst (λ (t : ℕ). TellGroups w t s.floor s.items.items) c.loop-group.invariant.taken c.loop-group.invariant.told in
    let lent = subst (TellGroups w c.loop-group.group s.floor) (sym c.deref_mut.ensures.value) here in
    record {
      told = subst (TellGroups w (c.loop-group.group + 1) s.floor) (sym (with_items_is s.items new same)) (c.in_ok-take_in.ensures s.floor lent);
      taken = refl;
    }
