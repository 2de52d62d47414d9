use Rattle.std.proofs.Common.{sym, subst, ap, ◌∙◌}
use Rattle.std.specs.List.{filter_map}
use Rattle.std.specs.List.Sorted.{IsStrictlySortedBy}
use Rattle.std.specs.Ordering.{nat_cmp}
use Rattle.mining_model.proofs.Differences.{Lists-changed_vertices}
use Rattle.update_rules.specs.calls.Telling.{edge_told, vertex_told}
use Rattle.update_rules.proofs.NetOfChanges.{vertices-told, edges-told}
use Rattle.update_rules.proofs.net.net_of_changes.Goals as goal

pub returns : goal.returns
returns c = λ before after simple_before simple_after is.
    let vertices = c.in_ok-vertices.ensures ∙ ap (filter_map vertex_told) is ∙ vertices-told before after simple_before simple_after in
    let sorted = subst (IsStrictlySortedBy nat_cmp) (sym vertices) (Lists-changed_vertices before after).ascending in
    let edges = c.in_ok-edges.ensures sorted ∙ (λ i. filter_map (edge_told (vertices i)) (is i)) ∙ edges-told before after simple_before simple_after in
    λ i. record { vertices = vertices i; edges = edges i }
