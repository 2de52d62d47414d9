use Rattle.std.proofs.Common.{◌≡◌, ◌<◌, ◌+◌, ◌-◌, ◌∙◌, length, ap, subst, sym, arith}
use Rattle.std.specs.Vec.{with_items}
use Rattle.std.proofs.lemmas.List.{with_items_is}
use Rattle.shard_state.specs.calls.Sharing.{KeepGraph, TellGroups, all_pruned}
use Rattle.store_bench.proofs.Keeping.{KeepGraph-last, TellGroups-none, same-none}
use Rattle.store_bench.proofs.passing.pass_window.Goals as goal

pub take_groups-requires : goal.take_groups-requires
take_groups-requires c =
    subst (TellGroups c.in_ok-window.window 0 0) (sym c.deref_mut.ensures.value)
    (TellGroups-none 8 c.args.store.now.at (c.args.to - c.args.from) c.args.store.now.graph c.fill.new.graph c.in_ok-window.window c.in_ok-window.ensures (omega arith) c.args.store.now.shards.items c.requires.kept.count c.requires.kept.keep)

pub returns : goal.returns
returns c =
    let taken_len : length c.take_groups.new.shards ≡ c.args.store.now.shards.len = omega (arith, c.take_groups.auto.shards, c.deref_mut.ensures.len) in
    let lent : c.deref_mut-2.result.now ≡ c.take_groups.new.shards = c.deref_mut-2.ensures.value ∙ with_items_is c.args.store.now.shards c.take_groups.new.shards taken_len in
    let last_len : length c.prune_all.new.shards ≡ c.args.store.now.shards.len = omega (arith, c.prune_all.auto.shards, c.deref_mut-2.ensures.len) in
    let is = with_items_is (with_items c.args.store.now.shards c.take_groups.new.shards) c.prune_all.new.shards last_len in
    let lent_first : length c.deref_mut.result.now ≡ length c.args.store.now.shards.items = ap length c.deref_mut.ensures.value in
    let lent_last : length c.deref_mut-2.result.now ≡ length c.take_groups.new.shards = ap length lent in
    let count_len : length c.prune_all.new.shards ≡ 8 = omega (arith, c.prune_all.auto.shards, lent_last, c.take_groups.auto.shards, lent_first, c.requires.kept.count) in
    let some : 0 < length c.in_ok-window.window.later = omega arith in
    let last = c.stamp_after-last.ensures ∙ ap (λ n. c.in_ok-window.window.first + n) c.len-2.ensures in
    record {
      count = ap length is ∙ count_len;
      keep = subst (λ shards. KeepGraph shards c.stamp_after-last.result c.fill.new.graph) (sym is)
          (KeepGraph-last 8 c.args.store.now.at (c.args.to - c.args.from) c.args.store.now.graph c.fill.new.graph c.in_ok-window.window c.in_ok-window.ensures some c.take_groups.new.shards c.prune_all.new.shards c.stamp_after-last.result
          c.in_ok-take_groups.ensures last (c.prune_all.ensures ∙ ap (all_pruned c.stamp_after-last.result) lent));
      few = omega (arith, c.in_ok-window.ensures.first, c.in_ok-window.ensures.few, c.requires.kept.few);
    }
