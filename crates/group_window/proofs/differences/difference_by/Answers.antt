use Rattle.mining_model.specs.meaning.Step.{graph_after}
use Rattle.update_rules.proofs.Stepping.{IsSimple-graph_after}
use Rattle.group_window.proofs.differences.difference_by.Goals as goal

pub returns : goal.returns
returns c =
    let g = c.args.graph.now in
    let u = c.args.update.now in
    c.difference_of_changes.ensures g (graph_after g u) c.simple.ensures (IsSimple-graph_after g c.simple.ensures u) c.in_ok-changes.ensures
