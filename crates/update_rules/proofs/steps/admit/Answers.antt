use Rattle.std.proofs.Common.{sym, subst}
use Rattle.update_rules.specs.calls.Steps.{Admits}
use Rattle.update_rules.proofs.steps.admit.Goals as goal

pub returns-in-AddVertex : goal.returns-in-AddVertex
returns-in-AddVertex c = subst (λ u. Admits c.args.graph.now u c.admit_new_vertex.result) (sym c.in-AddVertex.is) (c.admit_new_vertex.ensures c.in-AddVertex.label)

pub returns-in-AddEdge : goal.returns-in-AddEdge
returns-in-AddEdge c = subst (λ u. Admits c.args.graph.now u c.admit_new_edge.result) (sym c.in-AddEdge.is) (c.admit_new_edge.ensures c.in-AddEdge.label)
