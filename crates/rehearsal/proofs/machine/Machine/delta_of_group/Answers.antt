use Rattle.std.proofs.Common.{◌+◌, ◌-◌, sym, ap, subst, ◌∙◌}
use Rattle.cond_eval.specs.meaning.Patterns.{pattern_of}
use Rattle.delta_task.specs.calls.Deltas.{IsDelta}
use Rattle.graph_types.specs.calls.TwoGraphs.{TwoGraphs}
use Rattle.graph_types.specs.meaning.Simple.{IsSimple}
use Rattle.group_window.specs.meaning.Windows.{graph_of}
use Rattle.mining_model.specs.meaning.NetChange.{net_change}
use Rattle.shard_state.specs.calls.Viewing.{CanBeViewed}
use Rattle.shard_state.specs.meaning.Joining.{joined_graph}
use Rattle.rehearsal.specs.meaning.MachineState.{state_of}
use Rattle.rehearsal.proofs.Viewing.{joined-after, joined-before, simple-after, simple-before, viewed-group}
use Rattle.rehearsal.proofs.machine.Machine.delta_of_group.Goals as goal

pub new-view-requires : goal.new-view-requires
new-view-requires c =
    subst (λ shards. CanBeViewed shards c.stamp_after.result) (sym c.deref.ensures.value)
    (viewed-group c.args.window.now c.requires.sound.0 c.sound.ensures (state_of c.args.self.now) c.requires.sound.1 c.args.group c.requires.within c.requires.may c.stamp_after.result c.stamp_after.ensures)

pub delta_of-requires-clause-simple_before : goal.delta_of-requires-clause-simple_before
delta_of-requires-clause-simple_before c =
    subst (λ (view : TwoGraphs). IsSimple view.before) (sym c.new-view.ensures)
    (subst (λ shards. IsSimple (joined_graph shards (c.stamp_after.result - 1))) (sym c.deref.ensures.value)
    (simple-before c.args.window.now c.requires.sound.0 c.sound.ensures (state_of c.args.self.now) c.requires.sound.1 c.args.group c.requires.within c.requires.may c.stamp_after.result c.stamp_after.ensures))

pub delta_of-requires-clause-simple_after : goal.delta_of-requires-clause-simple_after
delta_of-requires-clause-simple_after c =
    subst (λ (view : TwoGraphs). IsSimple view.after) (sym c.new-view.ensures)
    (subst (λ shards. IsSimple (joined_graph shards c.stamp_after.result)) (sym c.deref.ensures.value)
    (simple-after c.args.window.now c.requires.sound.0 c.sound.ensures (state_of c.args.self.now) c.requires.sound.1 c.args.group c.requires.within c.requires.may c.stamp_after.result c.stamp_after.ensures))

pub delta_of-requires-clause-net : goal.delta_of-requires-clause-net
delta_of-requires-clause-net c =
    let before =
    ap (λ (view : TwoGraphs). view.before) c.new-view.ensures ∙ ap (λ shards. joined_graph shards (c.stamp_after.result - 1)) c.deref.ensures.value
    ∙ joined-before c.args.window.now c.requires.sound.0 c.sound.ensures (state_of c.args.self.now) c.requires.sound.1 c.args.group c.requires.within c.requires.may c.stamp_after.result c.stamp_after.ensures in
    let after =
    ap (λ (view : TwoGraphs). view.after) c.new-view.ensures ∙ ap (λ shards. joined_graph shards c.stamp_after.result) c.deref.ensures.value
    ∙ joined-after c.args.window.now c.requires.sound.0 c.sound.ensures (state_of c.args.self.now) c.requires.sound.1 c.args.group c.requires.within c.requires.may c.stamp_after.result c.stamp_after.ensures in
    c.net.ensures ∙ ap (λ g. net_change g (graph_of c.args.window.now (c.args.group + 1))) (sym before) ∙ ap (net_change c.new-view.result.before) (sym after)

pub returns-in-Ok : goal.returns-in-Ok
returns-in-Ok c =
    let before =
    ap (λ (view : TwoGraphs). view.before) c.new-view.ensures ∙ ap (λ shards. joined_graph shards (c.stamp_after.result - 1)) c.deref.ensures.value
    ∙ joined-before c.args.window.now c.requires.sound.0 c.sound.ensures (state_of c.args.self.now) c.requires.sound.1 c.args.group c.requires.within c.requires.may c.stamp_after.result c.stamp_after.ensures in
    let after =
    ap (λ (view : TwoGraphs). view.after) c.new-view.ensures ∙ ap (λ shards. joined_graph shards c.stamp_after.result) c.deref.ensures.value
    ∙ joined-after c.args.window.now c.requires.sound.0 c.sound.ensures (state_of c.args.self.now) c.requires.sound.1 c.args.group c.requires.within c.requires.may c.stamp_after.result c.stamp_after.ensures in
    subst (λ g. IsDelta (pattern_of c.args.program.now) g (graph_of c.args.window.now (c.args.group + 1)) c.args.most c.in-Ok.delta) before
    (subst (λ g. IsDelta (pattern_of c.args.program.now) c.new-view.result.before g c.args.most c.in-Ok.delta) after c.in-Ok.ensures.delta)
