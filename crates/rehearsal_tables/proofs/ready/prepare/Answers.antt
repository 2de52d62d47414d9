use Rattle.std.proofs.Common.{◌≤◌, ◌+◌, length, sym, ap, subst, ◌∙◌}
use Rattle.std.proofs.lemmas.List.FromFn.{length-map-range_with_len}
use Rattle.group_window.specs.meaning.Windows.{last_or}
use Rattle.shard_state.specs.calls.Sharing.{KeepGraph}
use Rattle.shard_state.specs.meaning.Shards.{empty_shard}
use Rattle.rehearsal_tables.proofs.Leading.{FollowsShards-led, last-led}
use Rattle.rehearsal_tables.proofs.ready.prepare.Goals as goal

pub mine_window-requires-clause-can : goal.mine_window-requires-clause-can
mine_window-requires-clause-can g c = λ _ _.
    let count = c.max-count.result in
    let leads = c.in_ok-earlier.ensures.leads in (
      c.new-graph.result,
      FollowsShards-led 0 count c.new-graph.result _ c.in_ok-earlier.earlier c.in_ok-shards.shards.items leads (ap length c.in_ok-shards.ensures.empty ∙ length-map-range_with_len (λ number. empty_shard number count) 0 count)
          (subst (KeepGraph c.in_ok-shards.shards.items 0) (sym c.new-graph.ensures) (c.in_ok-shards.ensures.keep 0 (subst (λ n. 1 ≤ n) leads.parted c.sound.ensures.some_shard))),
    )

pub returns : goal.returns
returns g c =
    let count = c.max-count.result in
    let before = c.new-graph.result in
    let earlier = c.in_ok-earlier.earlier in
    let leads = c.in_ok-earlier.ensures.leads in
    let mined =
    c.in_ok-mined.ensures before
    (FollowsShards-led 0 count before _ earlier c.in_ok-shards.shards.items leads (ap length c.in_ok-shards.ensures.empty ∙ length-map-range_with_len (λ number. empty_shard number count) 0 count)
    (subst (KeepGraph c.in_ok-shards.shards.items 0) (sym c.new-graph.ensures) (c.in_ok-shards.ensures.keep 0 (subst (λ n. 1 ≤ n) leads.parted c.sound.ensures.some_shard)))) in
    let shards = c.in_ok-mined.mined.shards.items in (
      c.window_of.new.graph,
      FollowsShards-led c.stamp_after-at.result count c.window_of.new.graph _ c.in_ok-window.window shards c.in_ok-window.ensures.leads (mined.count ∙ leads.parted)
          (subst (KeepGraph shards c.stamp_after-at.result) (last-led 0 count before c.window_of.new.graph earlier leads c.in_ok-earlier.ensures.closed)
          (subst (λ t. KeepGraph shards t (last_or before earlier.later)) (sym (c.stamp_after-at.ensures ∙ ap (λ n. earlier.first + n) c.len.ensures)) mined.keep)),
    )
