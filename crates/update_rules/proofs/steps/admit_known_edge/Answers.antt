use Rattle.std.proofs.Common.{IsOk, sym, subst, ◌∙◌, rules}
use Rattle.graph_types.specs.declared.update.Update.TheVariants.{LabelEdge, RemoveEdge}
use Rattle.mining_model.specs.meaning.Step.{label_edge, remove_edge}
use Rattle.update_rules.proofs.Refused.{Admits-refused}
use Rattle.update_rules.proofs.steps.admit_known_edge.Goals as goal

pub returns-in_err-edge-clause-remove : goal.returns-in_err-edge-clause-remove
returns-in_err-edge-clause-remove c =
    let g = c.args.graph.now in
    Admits-refused g (RemoveEdge c.args.from c.args.to) _ _ c.from_residual.ensures.1 (c.in_err-edge.ensures (remove_edge g))

pub returns-in_err-edge-clause-label : goal.returns-in_err-edge-clause-label
returns-in_err-edge-clause-label c = λ label.
    let g = c.args.graph.now in
    Admits-refused g (LabelEdge c.args.from c.args.to label) _ _ c.from_residual.ensures.1 (c.in_err-edge.ensures (label_edge g label))

pub returns-then-is_none-clause-remove : goal.returns-then-is_none-clause-remove
returns-then-is_none-clause-remove c = c.in_ok-edge.ensures.1 (remove_edge c.args.graph.now) ∙ search rules

pub returns-then-is_none-clause-label : goal.returns-then-is_none-clause-label
returns-then-is_none-clause-label c = λ label. c.in_ok-edge.ensures.1 (label_edge c.args.graph.now label) ∙ search rules

pub returns-clause-remove : goal.returns-clause-remove
returns-clause-remove c = subst IsOk (sym (c.in_ok-edge.ensures.1 (remove_edge c.args.graph.now))) (search rules)

pub returns-clause-label : goal.returns-clause-label
returns-clause-label c = λ label. subst IsOk (sym (c.in_ok-edge.ensures.1 (label_edge c.args.graph.now label))) (search rules)
