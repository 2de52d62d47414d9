-- Of which graphs a condition holds.
use Rattle.std.specs.Prelude.{ℕ, ◌*◌, Bool, true, false, not, ◌&&◌, ◌||◌, eqb, nat_lt, nat_le, List, sum_by}
use Rattle.graph_types.specs.meaning.Graph.{Graph}
use Rattle.conditions.specs.declared.condition.Cond.{Cond, fold-Cond}
use Rattle.conditions.specs.declared.condition.Cond.TheOpen.{Cond-F, True, False, Compare, Not, And, Or, Shape}
use Rattle.conditions.specs.declared.condition.Factor.{Factor}
use Rattle.conditions.specs.declared.condition.Op.{Op}
use Rattle.conditions.specs.declared.condition.Op.TheVariants.{AtMost, Below, AtLeast, Above, Equal, Unequal}
use Rattle.conditions.specs.meaning.Counts.{term_count}
use Rattle.conditions.specs.meaning.Fits.{has_shape}

-- the sum of what the factors' terms count, each as often as its factor says
abbrev pub sum_value : List Factor → Graph → ℕ
sum_value sum g = sum_by (λ f. f.times * term_count f.term g) sum

-- a number compares with a bound as the word says
abbrev pub comparison_holds : Op → ℕ → ℕ → Bool
comparison_holds AtMost n bound = nat_le n bound
comparison_holds Below n bound = nat_lt n bound
comparison_holds AtLeast n bound = nat_le bound n
comparison_holds Above n bound = nat_lt bound n
comparison_holds Equal n bound = eqb n bound
comparison_holds Unequal n bound = not (eqb n bound)

-- the condition holds of the graph
abbrev pub holds_by : Cond-F (Graph → Bool) → Graph → Bool
holds_by True g = true
holds_by False g = false
holds_by (Compare sum op bound) g = comparison_holds op (sum_value sum g) bound
holds_by (Not c) g = not (c g)
holds_by (And c d) g = c g && d g
holds_by (Or c d) g = c g || d g
holds_by (Shape s) g = has_shape s g

abbrev pub holds : Cond → Graph → Bool
holds c = fold-Cond (Graph → Bool) holds_by c
