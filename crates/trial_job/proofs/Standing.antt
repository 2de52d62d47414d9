-- The vertices of a trial stand, whatever edges are put in or taken out.
use Rattle.std.proofs.Common.{ℕ, zero, suc, true, false, IsTrue, inl, inr, subst, sym, arith, if◌then◌else◌}
use Rattle.std.proofs.lemmas.Bool.{cases_eq}
use Rattle.std.specs.Cmp.{nat_cmp_total}
use Rattle.graph_types.specs.meaning.Graph.{Graph, has_edge, has_vertex, with_edge, without_edge}
use Rattle.shared_lemmas.proofs.FiniteMaps.{contains_key-insert, contains_key-inserted}
use Rattle.trial_job.specs.calls.Standing.{HasVertices}
use Rattle.trial_job.specs.meaning.TrialJob.{graph_of_vertices, toggled}

pub HasVertices-graph_of_vertices : (n : ℕ) → HasVertices n (graph_of_vertices n)
HasVertices-graph_of_vertices zero v some within = absurd (omega (arith, some, within))
HasVertices-graph_of_vertices (suc n) v some within = elim (cases_eq v (suc n)) [
  | inl last ↦
      subst (λ w. IsTrue (has_vertex (graph_of_vertices (suc n)) w)) (sym last)
      (contains_key-inserted nat_cmp_total (graph_of_vertices n).labels (suc n) 0)
  | inr other ↦
      contains_key-insert nat_cmp_total (graph_of_vertices n).labels (suc n) 0 v
      (HasVertices-graph_of_vertices n v some (omega (arith, within, other)))
]

pub HasVertices-toggled : (n : ℕ) (g : Graph) (e : ℕ × ℕ) → HasVertices n g → HasVertices n (toggled g e)
HasVertices-toggled n g e there v some within =
    elim (has_edge g e) as (λ b. IsTrue (has_vertex (if b then without_edge g e else with_edge g e 0) v)) [
      | true ↦ there v some within
      | false ↦ there v some within
    ]
