-- Comparisons of a number of which only the least and the most are known.
use Rattle.std.proofs.Common.{◌≡◌, ◌≤◌, ℕ, Bool, true, false, not, ◌||◌, IsTrue, eqb, nat_le, nat_lt, refl, sym, ap, ◌∙◌, ⊎_elim, arith}
use Rattle.std.proofs.lemmas.Bool.{and_from, and_parts, eq-eqb, eqb-true, false≢true, le-leb, le-ltb, leb-false, leb-true, lt-leb, lt-ltb, ltb-false, ltb-true, ne_eqb, or_cases}
use Rattle.conditions.specs.declared.condition.Op.{Op}
use Rattle.conditions.specs.declared.condition.Op.TheVariants.{AtMost, Below, AtLeast, Above, Equal, Unequal}
use Rattle.conditions.specs.meaning.Conditions.{comparison_holds}
use Rattle.shape_bounds.specs.meaning.Outcomes.{ComparesWithin, comparison_may_hold, opposite}

-- a test is the negation of another, where each says the contrary

below_or_not : (n bound : ℕ) → nat_lt bound n ≡ not (nat_le n bound)
below_or_not n bound =
    elim (nat_le n bound) as (λ b. nat_le n bound ≡ b → nat_lt bound n ≡ not b) [
      | true ↦ λ t. le-ltb bound n (leb-true n bound t)
      | false ↦ λ f. lt-ltb bound n (leb-false n bound f)
    ] refl

most_or_not : (n bound : ℕ) → nat_le bound n ≡ not (nat_lt n bound)
most_or_not n bound =
    elim (nat_lt n bound) as (λ b. nat_lt n bound ≡ b → nat_le bound n ≡ not b) [
      | true ↦ λ t. lt-leb bound n (ltb-true n bound t)
      | false ↦ λ f. le-leb bound n (ltb-false n bound f)
    ] refl

twice : (b : Bool) → b ≡ not (not b)
twice true = refl
twice false = refl

pub opposite-is : (op : Op) (n bound : ℕ) → comparison_holds (opposite op) n bound ≡ not (comparison_holds op n bound)
opposite-is AtMost n bound = below_or_not n bound
opposite-is Below n bound = most_or_not n bound
opposite-is AtLeast n bound = below_or_not bound n
opposite-is Above n bound = most_or_not bound n
opposite-is Equal n bound = refl
opposite-is Unequal n bound = twice (eqb n bound)

-- two numbers differ

differ : (n k : ℕ) → (n ≡ k → ⊥) → IsTrue (not (eqb n k))
differ n k other = ap not (ne_eqb n k other)

other_than : (n k : ℕ) → IsTrue (not (eqb n k)) → n ≡ k → ⊥
other_than n k differs same = false≢true (ap not (sym (eq-eqb n k same)) ∙ differs)

-- what holds of a number between the bounds may hold
pub holds_between : (op : Op) (n least most bound : ℕ) → least ≤ n → n ≤ most → IsTrue (comparison_holds op n bound) → IsTrue (comparison_may_hold op least most bound)
holds_between AtMost n least most bound low high h = le-leb least bound (omega (arith, low, leb-true n bound h))
holds_between Below n least most bound low high h = lt-ltb least bound (omega (arith, low, ltb-true n bound h))
holds_between AtLeast n least most bound low high h = le-leb bound most (omega (arith, high, leb-true bound n h))
holds_between Above n least most bound low high h = lt-ltb bound most (omega (arith, high, ltb-true bound n h))
holds_between Equal n least most bound low high h =
    let same = eqb-true n bound h in
    and_from (nat_le least bound) (nat_le bound most) (le-leb least bound (omega (arith, low, same))) (le-leb bound most (omega (arith, high, same)))
holds_between Unequal n least most bound low high h =
    elim (eqb least bound) as (λ b. eqb least bound ≡ b → IsTrue (not b || not (eqb most bound))) [
      | true ↦ λ t. differ most bound (λ same. other_than n bound h (omega (arith, low, high, same, eqb-true least bound t)))
      | false ↦ λ _. refl
    ] refl

-- and what may hold does of some number between them
pub number_between : (op : Op) (least most bound : ℕ) → least ≤ most → IsTrue (comparison_may_hold op least most bound) → ComparesWithin op least most bound
number_between AtMost least most bound order h = record { number = least; from_least = omega arith; to_most = order; compares = h }
number_between Below least most bound order h = record { number = least; from_least = omega arith; to_most = order; compares = h }
number_between AtLeast least most bound order h = record { number = most; from_least = order; to_most = omega arith; compares = h }
number_between Above least most bound order h = record { number = most; from_least = order; to_most = omega arith; compares = h }
number_between Equal least most bound order h =
    let parts = and_parts (nat_le least bound) (nat_le bound most) h in
    record { number = bound; from_least = leb-true least bound parts.0; to_most = leb-true bound most parts.1; compares = eq-eqb bound bound refl }
number_between Unequal least most bound order h =
    ⊎_elim
    (λ differs. record { number = least; from_least = omega arith; to_most = order; compares = differs })
    (λ differs. record { number = most; from_least = order; to_most = omega arith; compares = differs })
    (or_cases (not (eqb least bound)) (not (eqb most bound)) h)
