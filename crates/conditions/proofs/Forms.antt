-- What is said of a condition, form by form, and induction on its form.
use Rattle.std.proofs.Common.{◌≡◌, ℕ, List, subst}
use Rattle.conditions.specs.declared.condition.Cond.{Cond}
use Rattle.conditions.specs.declared.condition.Cond.TheFolds.{fold-Cond, fold-roll-Cond, ind-Cond, map-Cond}
use Rattle.conditions.specs.declared.condition.Cond.TheOpen.{Cond-F, True, False, Compare, Not, And, Or, Shape}
use Rattle.conditions.specs.declared.condition.Cond.TheViews.{roll-Cond}
use Rattle.conditions.specs.declared.condition.Factor.{Factor}
use Rattle.conditions.specs.declared.condition.Op.{Op}
use Rattle.conditions.specs.declared.pattern.Pattern.{Pattern}

-- a condition by its outermost form
abbrev pub of_form : Cond-F Cond → Cond
of_form = roll-Cond

-- what holds of each form where it holds of the parts holds of each condition
pub by_form : (P : Cond → Type 0) → P (of_form True) → P (of_form False) → ((sum : List Factor) (op : Op) (bound : ℕ) → P (of_form (Compare sum op bound))) →
    ((c : Cond) → P c → P (of_form (Not c))) → ((c d : Cond) → P c → P d → P (of_form (And c d))) → ((c d : Cond) → P c → P d → P (of_form (Or c d))) → ((s : Pattern) → P (of_form (Shape s))) → (c : Cond) → P c
by_form P at_true at_false at_compare at_not at_and at_or at_shape c = ind-Cond P (λ x y e. elim y as (λ y. map-Cond _ Cond (λ part. part.0) y ≡ x → P (roll-Cond x)) [
  | True ↦ λ e. subst (λ x. P (roll-Cond x)) e at_true
  | False ↦ λ e. subst (λ x. P (roll-Cond x)) e at_false
  | Compare sum op bound ↦ λ e. subst (λ x. P (roll-Cond x)) e (at_compare sum op bound)
  | Not c ↦ λ e. subst (λ x. P (roll-Cond x)) e (at_not c.0 c.1)
  | And c d ↦ λ e. subst (λ x. P (roll-Cond x)) e (at_and c.0 d.0 c.1 d.1)
  | Or c d ↦ λ e. subst (λ x. P (roll-Cond x)) e (at_or c.0 d.0 c.1 d.1)
  | Shape s ↦ λ e. subst (λ x. P (roll-Cond x)) e (at_shape s)
] e) c

-- a recursion at a form
pub fold-form : (A : Type 0) (step : Cond-F A → A) (x : Cond-F Cond) → fold-Cond A step (of_form x) ≡ step (map-Cond Cond A (fold-Cond A step) x)
fold-form A step x = fold-roll-Cond A step x
