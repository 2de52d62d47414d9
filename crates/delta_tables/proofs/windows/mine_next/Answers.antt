use Rattle.std.proofs.Common.{◌+◌, sym, ap, subst, ◌∙◌}
use Rattle.shard_state.specs.calls.Sharing.{KeepGraph}
use Rattle.delta_tables.proofs.WindowsInTurn.{FollowsShards-goes, KeepGraph-after}
use Rattle.delta_tables.proofs.windows.mine_next.Goals as goal

pub mine_window-requires-clause-can : goal.mine_window-requires-clause-can
mine_window-requires-clause-can g c = λ _ _. (
  c.args.store.graph,
  FollowsShards-goes c.fill_window.new.window c.args.store.at c.args.count c.args.store.graph c.args.store.shards.items
      (c.in_ok-groups.ensures.goes_on c.args.store.at c.args.count c.args.store.graph c.in_ok-window.ensures.goes_on) c.requires.keeps.all c.requires.keeps.keep,
)

pub returns : goal.returns
returns g c =
    let goes = c.in_ok-groups.ensures.goes_on c.args.store.at c.args.count c.args.store.graph c.in_ok-window.ensures.goes_on in
    let mined =
    c.in_ok-mined.ensures c.args.store.graph
    (FollowsShards-goes c.fill_window.new.window c.args.store.at c.args.count c.args.store.graph c.args.store.shards.items goes c.requires.keeps.all c.requires.keeps.keep) in
    record {
      all = mined.count ∙ goes.parted;
      keep = subst (λ t. KeepGraph c.in_ok-mined.mined.shards.items t c.fill_window.new.graph)
          (sym (c.stamp_after-at.ensures ∙ ap (λ n. c.fill_window.new.window.first + n) c.len.ensures))
          (KeepGraph-after c.fill_window.new.window c.args.store.at c.args.count _ c.args.store.graph c.fill_window.new.graph c.in_ok-mined.mined.shards.items goes c.in_ok-groups.ensures.closed mined.keep);
    }
