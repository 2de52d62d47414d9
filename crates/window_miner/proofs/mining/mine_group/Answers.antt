use Rattle.std.proofs.Common.{◌+◌, sym, ap, subst, ◌∙◌}
use Rattle.cond_eval.specs.meaning.Patterns.{pattern_of}
use Rattle.delta_task.specs.calls.Deltas.{IsDelta}
use Rattle.graph_types.specs.calls.TwoGraphs.{TwoGraphs}
use Rattle.graph_types.specs.meaning.Simple.{IsSimple}
use Rattle.group_window.specs.meaning.Windows.{graph_of}
use Rattle.mining_model.specs.meaning.NetChange.{net_change}
use Rattle.window_miner.proofs.DeltasInOrder.{joined-after, joined-before, simple-after, simple-before, viewed-group}
use Rattle.window_miner.proofs.mining.mine_group.Goals as goal

pub new-view-requires : goal.new-view-requires
new-view-requires c = viewed-group c.args.window.now c.args.group c.args.shards.now c.requires.told c.stamp_after.result c.stamp_after.ensures

pub delta_of-requires-clause-simple_before : goal.delta_of-requires-clause-simple_before
delta_of-requires-clause-simple_before c =
    subst (λ (view : TwoGraphs). IsSimple view.before) (sym c.new-view.ensures) (simple-before c.args.window.now c.args.group c.args.shards.now c.requires.told c.stamp_after.result c.stamp_after.ensures)

pub delta_of-requires-clause-simple_after : goal.delta_of-requires-clause-simple_after
delta_of-requires-clause-simple_after c =
    subst (λ (view : TwoGraphs). IsSimple view.after) (sym c.new-view.ensures) (simple-after c.args.window.now c.args.group c.args.shards.now c.requires.told c.stamp_after.result c.stamp_after.ensures)

pub delta_of-requires-clause-net : goal.delta_of-requires-clause-net
delta_of-requires-clause-net c =
    let before = ap (λ (view : TwoGraphs). view.before) c.new-view.ensures ∙ joined-before c.args.window.now c.args.group c.args.shards.now c.requires.told c.stamp_after.result c.stamp_after.ensures in
    let after = ap (λ (view : TwoGraphs). view.after) c.new-view.ensures ∙ joined-after c.args.window.now c.args.group c.args.shards.now c.requires.told c.stamp_after.result c.stamp_after.ensures in
    c.net.ensures ∙ ap (λ g. net_change g (graph_of c.args.window.now (c.args.group + 1))) (sym before) ∙ ap (net_change c.new-view.result.before) (sym after)

pub returns-in-Ok : goal.returns-in-Ok
returns-in-Ok c =
    let before = ap (λ (view : TwoGraphs). view.before) c.new-view.ensures ∙ joined-before c.args.window.now c.args.group c.args.shards.now c.requires.told c.stamp_after.result c.stamp_after.ensures in
    let after = ap (λ (view : TwoGraphs). view.after) c.new-view.ensures ∙ joined-after c.args.window.now c.args.group c.args.shards.now c.requires.told c.stamp_after.result c.stamp_after.ensures in
    subst (λ g. IsDelta (pattern_of c.args.program.now) g (graph_of c.args.window.now (c.args.group + 1)) c.args.most c.in-Ok.delta) before
    (subst (λ g. IsDelta (pattern_of c.args.program.now) c.new-view.result.before g c.args.most c.in-Ok.delta) after c.in-Ok.ensures.delta)
