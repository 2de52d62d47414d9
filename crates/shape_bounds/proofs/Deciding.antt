-- What a condition says of a simple graph is one of the outcomes that its numbers of vertices and edges leave.
use Rattle.std.proofs.Common.{◌≡◌, ◌≤◌, ◌*◌, ℕ, Bool, true, false, not, ◌&&◌, ◌||◌, IsTrue, List, [], ◌∷◌, length, cond, refl, sym, ap, subst, ◌∙◌, ◌⊎◌, inl, inr, ⊎_elim, arith, mul-le-mul_left}
use Rattle.std.proofs.lemmas.Bool.{and_parts, and_from, false_from_ne_true, false≢true, or_cases, or_left, or_right}
use Rattle.std.proofs.lemmas.List.Sums.{sum_by-cons}
use Rattle.graph_types.specs.meaning.Graph.{Graph, edges_of, vertices_of}
use Rattle.graph_types.specs.meaning.Simple.{IsSimple}
use Rattle.conditions.specs.declared.condition.Cond.{Cond}
use Rattle.conditions.specs.declared.condition.Cond.TheOpen.{Cond-F, True, False, Compare, Not, And, Or, Shape}
use Rattle.conditions.specs.declared.condition.Cond.TheFolds.{map-Cond}
use Rattle.conditions.specs.declared.condition.Factor.{Factor}
use Rattle.conditions.specs.declared.condition.Term.{Term}
use Rattle.conditions.specs.meaning.Conditions.{holds, holds_by, sum_value}
use Rattle.conditions.specs.meaning.Counts.{term_count}
use Rattle.conditions.proofs.Forms.{by_form, fold-form, of_form}
use Rattle.conditions.proofs.Orders.{shape_counts}
use Rattle.shape_bounds.specs.meaning.Bounds.{least_count, least_value, most_count, most_value, value_by}
use Rattle.shape_bounds.specs.declared.outcome.Outcome.{Outcome}
use Rattle.shape_bounds.specs.declared.outcome.Outcome.TheVariants as outcome
use Rattle.shape_bounds.specs.meaning.Outcomes.{Outcomes, may_fail, may_hold, opposite, outcome_of, outcomes, outcomes_by}
use Rattle.shape_bounds.proofs.Comparing.{holds_between, opposite-is}
use Rattle.shape_bounds.proofs.Terms.{least_count-le, most_count-le}

-- where no term counts more one way than another, no sum comes to more
value_by-le : (few many : Term → ℕ) → ((t : Term) → few t ≤ many t) → (sum : List Factor) → value_by few sum ≤ value_by many sum
value_by-le few many more [] = omega arith
value_by-le few many more (f ∷ sum) =
    let here = mul-le-mul_left f.times (more f.term) in
    let rest = value_by-le few many more sum in
    omega (arith, here, rest, sum_by-cons (λ (e : Factor). e.times * few e.term) f sum, sum_by-cons (λ (e : Factor). e.times * many e.term) f sum)

-- what an outcome says of both

abbrev is_holds : Outcome → Bool
is_holds outcome.Holds = true
is_holds outcome.Fails = false
is_holds outcome.Open = false

abbrev is_fails : Outcome → Bool
is_fails outcome.Fails = true
is_fails outcome.Holds = false
is_fails outcome.Open = false

cannot_fail : (h f : Bool) → cond h (cond f outcome.Open outcome.Holds) outcome.Fails ≡ outcome.Holds → f ≡ false
cannot_fail true true is = absurd (false≢true (ap is_holds is))
cannot_fail true false is = refl
cannot_fail false f is = absurd (false≢true (ap is_holds is))

cannot_hold : (h f : Bool) → cond h (cond f outcome.Open outcome.Holds) outcome.Fails ≡ outcome.Fails → h ≡ false
cannot_hold true true is = absurd (false≢true (ap is_fails is))
cannot_hold true false is = absurd (false≢true (ap is_fails is))
cannot_hold false f is = refl

-- at each form

-- the answer is one of the outcomes
record IsOneOf (o : Outcomes) (answer : Bool) : Type 0 where
  when_true : IsTrue answer → IsTrue o.can_hold
  when_false : IsTrue (not answer) → IsTrue o.can_fail

one_fails : (a b : Bool) → IsTrue (not (a && b)) → IsTrue (not a) ⊎ IsTrue (not b)
one_fails true b h = inr h
one_fails false b h = inl refl

both_fail : (a b : Bool) → IsTrue (not (a || b)) → IsTrue (not a) × IsTrue (not b)
both_fail true b h = absurd (false≢true h)
both_fail false b h = (refl, h)

untwice : (a : Bool) → IsTrue (not (not a)) → IsTrue a
untwice true h = refl
untwice false h = h

turned : (o : Outcomes) (a : Bool) → IsOneOf o a → IsOneOf (record { can_hold = o.can_fail; can_fail = o.can_hold }) (not a)
turned o a p = record { when_true = p.when_false; when_false = λ h. p.when_true (untwice a h) }

both : (o o' : Outcomes) (a b : Bool) → IsOneOf o a → IsOneOf o' b → IsOneOf (record { can_hold = o.can_hold && o'.can_hold; can_fail = o.can_fail || o'.can_fail }) (a && b)
both o o' a b p q = record {
  when_true = λ h. let parts = and_parts a b h in and_from _ _ (p.when_true parts.0) (q.when_true parts.1);
  when_false = λ h. ⊎_elim (λ x. or_left o.can_fail o'.can_fail (p.when_false x)) (λ x. or_right o.can_fail o'.can_fail (q.when_false x)) (one_fails a b h);
}

either : (o o' : Outcomes) (a b : Bool) → IsOneOf o a → IsOneOf o' b → IsOneOf (record { can_hold = o.can_hold || o'.can_hold; can_fail = o.can_fail && o'.can_fail }) (a || b)
either o o' a b p q = record {
  when_true = λ h. ⊎_elim (λ x. or_left o.can_hold o'.can_hold (p.when_true x)) (λ x. or_right o.can_hold o'.can_hold (q.when_true x)) (or_cases a b h);
  when_false = λ h. let parts = both_fail a b h in and_from _ _ (p.when_false parts.0) (q.when_false parts.1);
}

module _ (g : Graph) (simple : IsSimple g) where
  abbrev n : ℕ
  n = length (vertices_of g)

  abbrev m : ℕ
  m = length (edges_of g)

  least_value-le : (sum : List Factor) → least_value sum n m ≤ sum_value sum g
  least_value-le sum = value_by-le (λ t. least_count t n m) (λ t. term_count t g) (least_count-le g simple) sum

  most_value-le : (sum : List Factor) → sum_value sum g ≤ most_value sum n m
  most_value-le sum = value_by-le (λ t. term_count t g) (λ t. most_count t n m) (most_count-le g simple) sum

  abbrev Answers : Outcomes → (Graph → Bool) → Type 0
  Answers o h = IsOneOf o (h g)

  abbrev IsAnswered : Cond → Type 0
  IsAnswered c = Answers (outcomes c n m) (holds c)

  at_form : (x : Cond-F Cond) → Answers (outcomes_by n m (map-Cond Cond Outcomes (λ c. outcomes c n m) x)) (holds_by (map-Cond Cond (Graph → Bool) holds x)) → IsAnswered (of_form x)
  at_form x answered =
      subst (λ (o : Outcomes). Answers o (holds (of_form x))) (sym (fold-form Outcomes (outcomes_by n m) x))
      (subst (λ (h : Graph → Bool). Answers (outcomes_by n m (map-Cond Cond Outcomes (λ c. outcomes c n m) x)) h) (sym (fold-form (Graph → Bool) holds_by x)) answered)

  answered : (c : Cond) → IsAnswered c
  answered = by_form IsAnswered
      (at_form True (record { when_true = λ h. h; when_false = λ h. h }))
      (at_form False (record { when_true = λ h. h; when_false = λ h. h }))
      (λ sum op bound. at_form (Compare sum op bound) (record {
        when_true = λ h. holds_between op (sum_value sum g) _ _ bound (least_value-le sum) (most_value-le sum) h;
        when_false = λ h. holds_between (opposite op) (sum_value sum g) _ _ bound (least_value-le sum) (most_value-le sum) (opposite-is op (sum_value sum g) bound ∙ h);
      }))
      (λ c p. at_form (Not c) (turned _ _ p))
      (λ c d p q. at_form (And c d) (both _ _ _ _ p q))
      (λ c d p q. at_form (Or c d) (either _ _ _ _ p q))
      (λ s. at_form (Shape s) (record { when_true = shape_counts s g; when_false = λ _. refl }))

  -- what holds may hold, and what fails may fail
  pub may_hold_where_holds : (c : Cond) → IsTrue (holds c g) → IsTrue (may_hold c n m)
  may_hold_where_holds c = (answered c).when_true

  pub may_fail_where_fails : (c : Cond) → IsTrue (not (holds c g)) → IsTrue (may_fail c n m)
  may_fail_where_fails c = (answered c).when_false

  -- the way in which a search uses it: what can't hold by these numbers doesn't
  pub fails_where_cannot_hold : (c : Cond) → may_hold c n m ≡ false → holds c g ≡ false
  fails_where_cannot_hold c refused = false_from_ne_true (holds c g) (λ h. false≢true (sym refused ∙ may_hold_where_holds c h))

  -- the numbers tell what the condition is
  pub outcome-fails : (c : Cond) → outcome_of c n m ≡ outcome.Fails → holds c g ≡ false
  outcome-fails c is = fails_where_cannot_hold c (cannot_hold (may_hold c n m) (may_fail c n m) is)

  pub outcome-holds : (c : Cond) → outcome_of c n m ≡ outcome.Holds → IsTrue (holds c g)
  outcome-holds c is =
      elim (holds c g) as (λ b. holds c g ≡ b → IsTrue b) [
        | true ↦ λ _. refl
        | false ↦ λ fails. absurd (false≢true (sym (cannot_fail (may_hold c n m) (may_fail c n m) is) ∙ may_fail_where_fails c (ap not fails)))
      ] refl
