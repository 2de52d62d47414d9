-- Which conditions look at labels of vertices.
use Rattle.std.specs.Prelude.{◌≡◌, Bool, true, false, ◌||◌, List, Some}
use Rattle.std.specs.FinMap as map
use Rattle.std.specs.List.{list_any}
use Rattle.graph_types.specs.meaning.Graph.{Graph}
use Rattle.conditions.specs.declared.condition.Cond.{Cond, fold-Cond}
use Rattle.conditions.specs.declared.condition.Cond.TheOpen.{Cond-F, True, False, Compare, Not, And, Or, Shape}
use Rattle.conditions.specs.declared.condition.Factor.{Factor}
use Rattle.conditions.specs.declared.condition.Term.{Term}
use Rattle.conditions.specs.declared.condition.Term.TheVariants.{Vertices, Joins, Kinds}

-- the term counts vertices of a label, edges by the labels of their ends, or labels
abbrev pub term_needs_labels : Term → Bool
term_needs_labels (Vertices (Some label)) = true
term_needs_labels (Joins l m) = true
term_needs_labels Kinds = true
term_needs_labels _ = false

abbrev pub sum_needs_labels : List Factor → Bool
sum_needs_labels sum = list_any (λ f. term_needs_labels f.term) sum

-- one of its terms does, or it has a shape
abbrev pub needs_by : Cond-F Bool → Bool
needs_by True = false
needs_by False = false
needs_by (Compare sum op bound) = sum_needs_labels sum
needs_by (Not c) = c
needs_by (And c d) = c || d
needs_by (Or c d) = c || d
needs_by (Shape s) = true

abbrev pub needs_vertex_labels : Cond → Bool
needs_vertex_labels c = fold-Cond Bool needs_by c

-- two graphs have the same vertices, and the same edges with the same labels
pub record AreAlike (g h : Graph) : Type 0 where
  pub vertices : map.keys g.labels ≡ map.keys h.labels
  pub edges : g.edges ≡ h.edges
