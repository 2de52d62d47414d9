-- What the answers of a comparison say.
use Rattle.std.proofs.Common.{◌≡◌, ℕ, true, eqb, refl, ap, ◌∙◌, arith}
use Rattle.std.specs.Bool.{Decides}
use Rattle.std.specs.Cmp.{IsTotalOrder, Equal-is}
use Rattle.std.specs.FinMap.{IsAntisymmetric}
use Rattle.std.specs.Ordering.{eq_by_cmp, is_eq, is_lt, nat_cmp, ordering_reverse, ordering_then}
use Rattle.std.specs.declared.cmp.Ordering.{Ordering}
use Rattle.std.specs.declared.cmp.Ordering.TheVariants.{Less, Equal, Greater}
use Rattle.std.proofs.lemmas.Bool.{false≢true}
use Rattle.std.proofs.lemmas.Bool.Decides.{nat_tests}

-- `Equal-is` of std, for `Less`
pub Less-is : (r : Ordering) → Decides (is_lt r) (r ≡ Less)
Less-is Less = (λ e. refl, λ e. refl)
Less-is Equal = (λ e. absurd (false≢true e), λ e. ap is_lt e)
Less-is Greater = (λ e. absurd (false≢true e), λ e. ap is_lt e)

-- two numbers tie where they are equal
pub nat-test : (x y : ℕ) → eq_by_cmp nat_cmp x y ≡ eqb x y
nat-test x y = grind (arith, nat_tests)

-- a tie changes nothing
pub then_tie : (r : Ordering) → r ≡ ordering_then r Equal
then_tie Less = refl
then_tie Equal = refl
then_tie Greater = refl

-- items that tie are one item
pub same_item : {A : Type 0} {R : A → A → Ordering} → IsAntisymmetric R → (x y : A) → is_eq (R x y) ≡ true → x ≡ y
same_item {R = R} exact x y tied = exact x y ((Equal-is (R x y)).0 tied)

module _ {A : Type 0} {R : A → A → Ordering} (total : IsTotalOrder R) where
  pub Less-turned : (x y : A) → R x y ≡ Greater → R y x ≡ Less
  Less-turned x y greater = total.antisymm y x ∙ ap ordering_reverse greater

  pub Greater-turned : (x y : A) → R x y ≡ Less → R y x ≡ Greater
  Greater-turned x y less = total.antisymm y x ∙ ap ordering_reverse less
