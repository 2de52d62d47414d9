use Rattle.std.proofs.Common.{IsOk, sym, subst, ◌∙◌, rules}
use Rattle.graph_types.specs.declared.update.Update.TheVariants.{AddEdge}
use Rattle.mining_model.specs.meaning.Step.{add_edge}
use Rattle.update_rules.proofs.Refused.{Admits-refused}
use Rattle.update_rules.proofs.steps.admit_new_edge.Goals as goal

pub returns-in_err-edge : goal.returns-in_err-edge
returns-in_err-edge c = λ label.
    let g = c.args.graph.now in
    Admits-refused g (AddEdge c.args.from c.args.to label) _ _ c.from_residual.ensures.1 (c.in_err-edge.ensures (add_edge g label))

pub returns-then-is_some : goal.returns-then-is_some
returns-then-is_some c = λ label. c.in_ok-edge.ensures.1 (add_edge c.args.graph.now label) ∙ search rules

pub returns : goal.returns
returns c = λ label. subst IsOk (sym (c.in_ok-edge.ensures.1 (add_edge c.args.graph.now label))) (search rules)
