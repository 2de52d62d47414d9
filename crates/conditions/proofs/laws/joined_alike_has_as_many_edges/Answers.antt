use Rattle.std.specs.Cmp.{nat_cmp_total}
use Rattle.graph_types.specs.meaning.Graph.{vertices_of}
use Rattle.shared_lemmas.proofs.FiniteMaps.{keys_rise}
use Rattle.shared_lemmas.proofs.Membership.{distinct_from_sorted}
use Rattle.conditions.proofs.EdgeCounts.{as_many_edges}
use Rattle.conditions.proofs.Orders.{covered, distinct_order, in_order, length-order}
use Rattle.conditions.proofs.Patterns.{pattern-within}
use Rattle.conditions.proofs.laws.joined_alike_has_as_many_edges.Goals as goal

pub returns : goal.returns
returns c = λ s g vs within simple there long alike.
    let all = vertices_of g in
    let distinct = distinct_order all vs (distinct_from_sorted nat_cmp_total all (keys_rise g.labels)) there in
    as_many_edges s g vs (pattern-within s within) simple distinct (covered vs all distinct (λ v i. in_order all vs v there i) (length-order all vs there)) long alike
