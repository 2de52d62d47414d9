-- What contracts see of a view of two snapshots.
use Rattle.std.specs.Prelude.{ℕ, refl}
use Rattle.std.specs.Coded.{Coded, code_by, coded×, coded_ℕ}
use Rattle.graph_types.specs.meaning.Graph.{Graph, graph_code}

-- the graph before, the graph after, and how many reads were made
pub record TwoGraphs : Type 0 where
  pub before : Graph
  pub after : Graph
  pub reads : ℕ

-- a view is stored as the triple of its fields
abbrev pub two_graphs_code : Coded TwoGraphs
two_graphs_code = code_by (Graph × (Graph × ℕ)) (coded× graph_code (coded× graph_code coded_ℕ))
    (λ v. (v.before, (v.after, v.reads))) (λ t. record { before = t.0; after = t.1.0; reads = t.1.1 }) (λ _. refl)
