use Rattle.std.proofs.Common.{◌&&◌, ℕ}
use Rattle.std.specs.Cmp.{nat_cmp_total}
use Rattle.std.specs.FinMap.{nat_cmp-IsAntisymmetric}
use Rattle.graph_types.specs.meaning.Orders.{pair_cmp_total}
use Rattle.graph_types.proofs.Graph.{pair_cmp-IsAntisymmetric}
use Rattle.mining_model.specs.meaning.NetChange.{vertex_differs, edge_differs, ends_are_same, changed_vertices, changed_edges}
use Rattle.mining_model.proofs.Differences.{IsIn-lists, Lists-changed_vertices, Lists-changed_edges}
use Rattle.mining_model.proofs.laws.net_changes.Goals as goal

pub returns-clause-vertices : goal.returns-clause-vertices
returns-clause-vertices c = λ before after v. IsIn-lists nat_cmp_total nat_cmp-IsAntisymmetric (vertex_differs before after) (changed_vertices before after) (Lists-changed_vertices before after) v

pub returns-clause-edges : goal.returns-clause-edges
returns-clause-edges c = λ before after e. IsIn-lists pair_cmp_total pair_cmp-IsAntisymmetric (λ f. edge_differs before after f && ends_are_same before after f) (changed_edges before after) (Lists-changed_edges before after) e

pub returns-clause-vertices_ascend : goal.returns-clause-vertices_ascend
returns-clause-vertices_ascend c = λ before after. (Lists-changed_vertices before after).ascending

pub returns-clause-edges_ascend : goal.returns-clause-edges_ascend
returns-clause-edges_ascend c = λ before after. (Lists-changed_edges before after).ascending
