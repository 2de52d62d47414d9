-- Places in order.
use Rattle.std.proofs.Common.{◌≡◌, ℕ, eq-eqb, true, eqb, List, [], ◌∷◌, map, Option, None, Some, refl, ap, subst, ◌∙◌, inl, inr, arith}
use Rattle.std.specs.Cmp.{IsTotalOrder, nat_cmp_total, on_total, then_total, tied_itself}
use Rattle.std.specs.Cmp.Lexicographic.{options_total}
use Rattle.std.specs.FinMap as finite
use Rattle.std.specs.List.{AllByRecursion, flat_map}
use Rattle.std.specs.List.Sorted.{IsStrictlySortedBy}
use Rattle.std.specs.Option.{option_cmp, option_eq}
use Rattle.std.specs.Ordering.{nat_cmp, ordering_then}
use Rattle.std.specs.declared.cmp.Ordering.TheVariants.{Less, Equal, Greater}
use Rattle.std.proofs.lemmas.Bool.{false≢true, eqb-true}
use Rattle.std.proofs.lemmas.Bool.Decides.{nat_tests}
use Rattle.shared_lemmas.specs.meaning.Membership.{IsIn}
use Rattle.shared_lemmas.proofs.Ascending.{IsStrictlySortedBy-append, IsStrictlySortedBy-map, sorted-cons}
use Rattle.shared_lemmas.proofs.Claims.{all-append}
use Rattle.shared_lemmas.proofs.Membership.{IsIn-append_left, IsIn-append_right, IsIn-map}
use Rattle.update_rules.specs.meaning.Places.{Place, place_cmp, places_of, places_among}

pub place_cmp_total : IsTotalOrder place_cmp
place_cmp_total = then_total (on_total (λ (p : Place). p.0) nat_cmp_total) (on_total (λ (p : Place). p.1) (options_total nat_cmp_total))

option_cmp-exact : (a b : Option ℕ) → option_cmp nat_cmp a b ≡ Equal → a ≡ b
option_cmp-exact None None e = refl
option_cmp-exact None (Some y) e = cc
option_cmp-exact (Some x) None e = cc
option_cmp-exact (Some x) (Some y) e = ap Some (finite.nat_cmp-IsAntisymmetric x y e)

pub place_cmp-IsAntisymmetric : finite.IsAntisymmetric place_cmp
place_cmp-IsAntisymmetric p q tied =
    elim (nat_cmp p.0 q.0) as (λ r. nat_cmp p.0 q.0 ≡ r → ordering_then r (option_cmp nat_cmp p.1 q.1) ≡ Equal → p ≡ q) [
      | Less ↦ λ _ t. cc
      | Equal ↦ λ first second i. (finite.nat_cmp-IsAntisymmetric p.0 q.0 first i, option_cmp-exact p.1 q.1 second i)
      | Greater ↦ λ _ t. cc
    ] refl tied

-- entries are the same where the test tells it

pub same_option : (a b : Option ℕ) → option_eq eqb a b ≡ true → a ≡ b
same_option None None e = refl
same_option None (Some y) e = absurd (false≢true e)
same_option (Some x) None e = absurd (false≢true e)
same_option (Some x) (Some y) e = ap Some (eqb-true x y e)

eqb-itself : (n : ℕ) → eqb n n ≡ true
eqb-itself n = eq-eqb n n refl

pub option_eq-itself : (a : Option ℕ) → option_eq eqb a a ≡ true
option_eq-itself None = refl
option_eq-itself (Some x) = eqb-itself x

eqb-turned : (x y : ℕ) → eqb x y ≡ eqb y x
eqb-turned x y = grind (arith, nat_tests)

pub option_eq-turned : (a b : Option ℕ) → option_eq eqb a b ≡ option_eq eqb b a
option_eq-turned None None = refl
option_eq-turned None (Some y) = refl
option_eq-turned (Some x) None = refl
option_eq-turned (Some x) (Some y) = eqb-turned x y

-- places of one vertex

after_label : (v : ℕ) (others : List ℕ) → AllByRecursion (λ p. place_cmp (v, None) p ≡ Less) (map (λ to. (v, Some to)) others)
after_label v [] = tt
after_label v (to ∷ others) = (ap (λ r. ordering_then r Less) (tied_itself nat_cmp_total v), after_label v others)

places_of_rise : (others : List ℕ) (v : ℕ) → IsStrictlySortedBy nat_cmp others → IsStrictlySortedBy place_cmp (places_of others v)
places_of_rise others v s =
    sorted-cons place_cmp (v, None) (map (λ to. (v, Some to)) others) (after_label v others)
    (IsStrictlySortedBy-map nat_cmp place_cmp (λ to. (v, Some to)) (λ x y less. ap (λ r. ordering_then r (nat_cmp x y)) (tied_itself nat_cmp_total v) ∙ less) others s)

-- places of vertices, each after those of a lower one

above_tos : (p : Place) (w : ℕ) → nat_cmp p.0 w ≡ Less → (others : List ℕ) → AllByRecursion (λ q. place_cmp p q ≡ Less) (map (λ to. (w, Some to)) others)
above_tos p w below [] = tt
above_tos p w below (to ∷ others) = (ap (λ r. ordering_then r (option_cmp nat_cmp p.1 (Some to))) below, above_tos p w below others)

module _ (others : List ℕ) where
  above_place : (p : Place) (vs : List ℕ) → AllByRecursion (λ w. nat_cmp p.0 w ≡ Less) vs → AllByRecursion (λ q. place_cmp p q ≡ Less) (flat_map (places_of others) vs)
  above_place p [] below = tt
  above_place p (w ∷ vs) below =
      all-append (λ q. place_cmp p q ≡ Less) (places_of others w) (flat_map (places_of others) vs)
      (ap (λ r. ordering_then r (option_cmp nat_cmp p.1 None)) below.0, above_tos p w below.0 others)
      (above_place p vs below.1)

  above_each : (v : ℕ) (tos vs : List ℕ) → AllByRecursion (λ w. nat_cmp v w ≡ Less) vs → AllByRecursion (λ p. AllByRecursion (λ q. place_cmp p q ≡ Less) (flat_map (places_of others) vs)) (map (λ to. (v, Some to)) tos)
  above_each v [] vs below = tt
  above_each v (to ∷ tos) vs below = (above_place (v, Some to) vs below, above_each v tos vs below)

  places_rise : (vs : List ℕ) → IsStrictlySortedBy nat_cmp others → IsStrictlySortedBy nat_cmp vs → IsStrictlySortedBy place_cmp (flat_map (places_of others) vs)
  unfolding IsStrictlySortedBy
  places_rise [] t s = tt
  places_rise (v ∷ vs) t s =
      IsStrictlySortedBy-append place_cmp (places_of others v) (flat_map (places_of others) vs) (places_of_rise others v t) (places_rise vs t s.1)
      (above_place (v, None) vs s.0, above_each v others vs s.0)

  IsIn-places : (p : Place) (vs : List ℕ) → IsIn p.0 vs → IsIn p (places_of others p.0) → IsIn p (flat_map (places_of others) vs)
  IsIn-places p [] h own = absurd h
  IsIn-places p (v ∷ vs) (inl e) own = IsIn-append_left p (places_of others v) (flat_map (places_of others) vs) (subst (λ w. IsIn p (places_of others w)) e own)
  IsIn-places p (v ∷ vs) (inr h) own = IsIn-append_right p (places_of others v) (flat_map (places_of others) vs) (IsIn-places p vs h own)

pub places_among_rise : (vs : List ℕ) → IsStrictlySortedBy nat_cmp vs → IsStrictlySortedBy place_cmp (places_among vs)
places_among_rise vs s = places_rise vs vs s s

pub IsIn-label : (v : ℕ) (vs : List ℕ) → IsIn v vs → IsIn (v, None) (places_among vs)
IsIn-label v vs h = IsIn-places vs (v, None) vs h (inl refl)

pub IsIn-near : (v to : ℕ) (vs : List ℕ) → IsIn v vs → IsIn to vs → IsIn (v, Some to) (places_among vs)
IsIn-near v to vs h there = IsIn-places vs (v, Some to) vs h (inr (IsIn-map (λ w. (v, Some w)) to vs there))
