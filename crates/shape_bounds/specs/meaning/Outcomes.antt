-- Whether a condition may hold of a simple graph of which only the numbers of vertices and edges are known, and
-- whether it may fail.
use Rattle.std.specs.Prelude.{ℕ, ◌≤◌, Bool, true, false, not, ◌&&◌, ◌||◌, IsTrue, eqb, nat_lt, nat_le, if◌then◌else◌, length}
use Rattle.conditions.specs.declared.condition.Cond.{Cond, fold-Cond}
use Rattle.conditions.specs.declared.condition.Cond.TheOpen.{Cond-F, True, False, Compare, Not, And, Or, Shape}
use Rattle.conditions.specs.declared.condition.Op.{Op}
use Rattle.conditions.specs.declared.condition.Op.TheVariants.{AtMost, Below, AtLeast, Above, Equal, Unequal}
use Rattle.conditions.specs.meaning.Conditions.{comparison_holds}
use Rattle.shape_bounds.specs.declared.outcome.Outcome.{Outcome}
use Rattle.shape_bounds.specs.declared.outcome.Outcome.TheVariants as outcome
use Rattle.shape_bounds.specs.meaning.Bounds.{least_value, most_value}

-- some number from the least to the most compares with the bound as the word says
pub record ComparesWithin (op : Op) (least most bound : ℕ) : Type 0 where
  pub number : ℕ
  pub from_least : least ≤ number
  pub to_most : number ≤ most
  pub compares : IsTrue (comparison_holds op number bound)

-- the same, by the least and the most alone
abbrev pub comparison_may_hold : Op → ℕ → ℕ → ℕ → Bool
comparison_may_hold AtMost least most bound = nat_le least bound
comparison_may_hold Below least most bound = nat_lt least bound
comparison_may_hold AtLeast least most bound = nat_le bound most
comparison_may_hold Above least most bound = nat_lt bound most
comparison_may_hold Equal least most bound = nat_le least bound && nat_le bound most
comparison_may_hold Unequal least most bound = not (eqb least bound) || not (eqb most bound)

-- the word that holds where this one doesn't
abbrev pub opposite : Op → Op
opposite AtMost = Above
opposite Below = AtLeast
opposite AtLeast = Below
opposite Above = AtMost
opposite Equal = Unequal
opposite Unequal = Equal

-- whether a condition may hold, and whether it may fail
pub record Outcomes : Type 0 where
  pub can_hold : Bool
  pub can_fail : Bool

-- A comparison may fail where the opposite one may hold, and `not` turns both round. `and` may hold only where both
-- sides may, and may fail where one side may; `or` the other way round. A graph can have a shape only where it has as
-- many vertices and edges as the pattern.
abbrev pub outcomes_by : ℕ → ℕ → Cond-F Outcomes → Outcomes
outcomes_by vertices edges True = record { can_hold = true; can_fail = false }
outcomes_by vertices edges False = record { can_hold = false; can_fail = true }
outcomes_by vertices edges (Compare sum op bound) = record {
  can_hold = comparison_may_hold op (least_value sum vertices edges) (most_value sum vertices edges) bound;
  can_fail = comparison_may_hold (opposite op) (least_value sum vertices edges) (most_value sum vertices edges) bound;
}
outcomes_by vertices edges (Not c) = record { can_hold = c.can_fail; can_fail = c.can_hold }
outcomes_by vertices edges (And c d) = record { can_hold = c.can_hold && d.can_hold; can_fail = c.can_fail || d.can_fail }
outcomes_by vertices edges (Or c d) = record { can_hold = c.can_hold || d.can_hold; can_fail = c.can_fail && d.can_fail }
outcomes_by vertices edges (Shape s) = record { can_hold = eqb vertices (length s.labels) && eqb edges (length s.edges); can_fail = true }

abbrev pub outcomes : Cond → ℕ → ℕ → Outcomes
outcomes c vertices edges = fold-Cond Outcomes (outcomes_by vertices edges) c

abbrev pub may_hold : Cond → ℕ → ℕ → Bool
may_hold c vertices edges = (outcomes c vertices edges).can_hold

abbrev pub may_fail : Cond → ℕ → ℕ → Bool
may_fail c vertices edges = (outcomes c vertices edges).can_fail

-- What a condition is of all simple graphs with so many vertices and edges: it fails of each where it may not hold, it
-- holds of each where it may not fail, and else their numbers don't tell.
abbrev pub outcome_of : Cond → ℕ → ℕ → Outcome
outcome_of c vertices edges =
    if may_hold c vertices edges then (if may_fail c vertices edges then outcome.Open else outcome.Holds) else outcome.Fails
