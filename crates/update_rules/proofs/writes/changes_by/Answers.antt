use Rattle.mining_model.specs.meaning.Step.{graph_after}
use Rattle.update_rules.proofs.Stepping.{IsSimple-graph_after}
use Rattle.update_rules.proofs.writes.changes_by.Goals as goal

pub returns : goal.returns
returns c =
    let g = c.args.graph.now in
    let u = c.args.update.now in
    c.changes_until.ensures (graph_after g u) (IsSimple-graph_after g c.simple.ensures u) c.in_ok-entries.ensures
