-- The edges of a pattern, ascending.
use Rattle.std.proofs.Common.{◌≡◌, ℕ, ◌+◌, ◌<◌, ◌≤◌, Bool, true, false, cond, ◌&&◌, ⊎_elim, inl, inr, eqb, min, max, nat_lt, nat_le, List, [], ◌∷◌, ◌++◌, length, take, drop, refl, sym, ap, ◌∙◌, arith, if◌then◌else◌, ◌⊎◌}
use Rattle.std.specs.List.{list_all, list_any, sum_by, take_while}
use Rattle.std.proofs.lemmas.Bool.{and_parts, and_from, or_from, or_parts, or_cases, or_left, or_right, eqb-true, eq-eqb, leb-true, ltb-true, lt-ltb, cases_lt, false≢true, false_from_ne_true}
use Rattle.std.proofs.lemmas.List.Sums.{sum_by-cons, take_while-cons}
use Rattle.conditions.specs.meaning.Fits.{has_numbers}
use Rattle.conditions.specs.meaning.Written.{come_in_order, comes_after, is_pair_of, pair_tokens}
use Rattle.conditions.specs.declared.pattern.PatternEdge.{PatternEdge}
use Rattle.condition_grammar.specs.meaning.Grammar.{with_edge}

pub pair-less : (n : ℕ) (e : PatternEdge) → is_pair_of n e ≡ true → e.low < e.high
pair-less n e h =
    let parts = and_parts (nat_le 1 e.low && nat_lt e.low e.high) (nat_le e.high n) h in
    ltb-true e.low e.high (and_parts (nat_le 1 e.low) (nat_lt e.low e.high) parts.0).1

pub pair-most : (n : ℕ) (e : PatternEdge) → is_pair_of n e ≡ true → e.high ≤ n
pair-most n e h = leb-true e.high n (and_parts (nat_le 1 e.low && nat_lt e.low e.high) (nat_le e.high n) h).1

pub pair-some : (n : ℕ) (e : PatternEdge) → is_pair_of n e ≡ true → 1 ≤ e.low
pair-some n e h =
    let parts = and_parts (nat_le 1 e.low && nat_lt e.low e.high) (nat_le e.high n) h in
    leb-true 1 e.low (and_parts (nat_le 1 e.low) (nat_lt e.low e.high) parts.0).0

-- the order of edges, as numbers say it
abbrev After : ℕ → ℕ → PatternEdge → Type 0
After low high e = (low < e.low) ⊎ ((low ≡ e.low) × (high < e.high))

after-told : (low high : ℕ) (e : PatternEdge) → comes_after low high e ≡ true → After low high e
after-told low high e h = ⊎_elim (λ less. inl (ltb-true low e.low less)) (λ same. let both = and_parts (eqb low e.low) (nat_lt high e.high) same in inr (eqb-true low e.low both.0, ltb-true high e.high both.1)) (or_cases (nat_lt low e.low) (eqb low e.low && nat_lt high e.high) h)

after-tells : (low high : ℕ) (e : PatternEdge) → After low high e → comes_after low high e ≡ true
after-tells low high e (inl less) = or_left (nat_lt low e.low) _ (lt-ltb low e.low less)
after-tells low high e (inr (same, less)) = or_right (nat_lt low e.low) _ (and_from (eqb low e.low) _ (eq-eqb low e.low same) (lt-ltb high e.high less))

after-trans : (low high : ℕ) (f e : PatternEdge) → comes_after low high f ≡ true → comes_after f.low f.high e ≡ true → comes_after low high e ≡ true
after-trans low high f e first second = after-tells low high e (by (after-told low high f first) (after-told f.low f.high e second))
  where
    by : After low high f → After f.low f.high e → After low high e
    by (inl a) (inl b) = inl (omega arith)
    by (inl a) (inr b) = inl (omega (arith, b.0))
    by (inr a) (inl b) = inl (omega (arith, a.0))
    by (inr a) (inr b) = inr (a.0 ∙ b.0, omega (arith, a.1, b.1))

-- an edge that doesn't come after another, and has other ends, comes before it
after-other : (f e : PatternEdge) → comes_after f.low f.high e ≡ false → ((e.low ≡ f.low) → (e.high ≡ f.high) → ⊥) → comes_after e.low e.high f ≡ true
after-other f e later differ = after-tells e.low e.high f (by (cases_lt e.low f.low) (cases_lt e.high f.high))
  where
    no : After f.low f.high e → ⊥
    no after = false≢true (sym later ∙ after-tells f.low f.high e after)

    by : (e.low < f.low) ⊎ (f.low ≤ e.low) → (e.high < f.high) ⊎ (f.high ≤ e.high) → After e.low e.high f
    by (inl a) b = inl a
    by (inr a) b = ⊎_elim
        (λ (more : f.low < e.low). absurd (no (inl more)))
        (λ (least : e.low ≤ f.low). let same : e.low ≡ f.low = omega arith in
        ⊎_elim (λ (less : e.high < f.high). inr (same, less))
        (λ (most : f.high ≤ e.high). ⊎_elim (λ (more : f.high < e.high). absurd (no (inr (sym same, more)))) (λ (least : e.high ≤ f.high). absurd (differ same (omega arith))) (cases_lt f.high e.high)) b)
        (cases_lt f.low e.low)

-- ---- one edge more

module _ (p : PatternEdge → Bool) (e : PatternEdge) where
  pub all-with_edge : (es : List PatternEdge) → p e ≡ true → list_all p es ≡ true → list_all p (with_edge e es) ≡ true
  all-with_edge [] one all = and_from (p e) true one refl
  all-with_edge (f ∷ fs) one all =
      let both = and_parts (p f) (list_all p fs) all in
      elim (comes_after f.low f.high e) as (λ b. list_all p (if b then f ∷ with_edge e fs else e ∷ f ∷ fs) ≡ true) [
        | true ↦ and_from (p f) _ both.0 (all-with_edge fs one both.1)
        | false ↦ and_from (p e) _ one all
      ]

-- the edge has other ends than each of these
abbrev pub HasOthers : PatternEdge → List PatternEdge → Type 0
HasOthers e [] = Unit {0}
HasOthers e (f ∷ fs) = ((e.low ≡ f.low) → (e.high ≡ f.high) → ⊥) × HasOthers e fs

pub order-with_edge : (low high : ℕ) (e : PatternEdge) (es : List PatternEdge) → comes_after low high e ≡ true → HasOthers e es → come_in_order low high es ≡ true → come_in_order low high (with_edge e es) ≡ true
order-with_edge low high e [] after others all = and_from (comes_after low high e) true after refl
order-with_edge low high e (f ∷ fs) after others all =
    let both = and_parts (comes_after low high f) (come_in_order f.low f.high fs) all in
    elim (comes_after f.low f.high e) as (λ b. comes_after f.low f.high e ≡ b → come_in_order low high (if b then f ∷ with_edge e fs else e ∷ f ∷ fs) ≡ true) [
      | true ↦ λ later. and_from (comes_after low high f) _ both.0 (order-with_edge f.low f.high e fs later others.1 both.1)
      | false ↦ λ later. and_from (comes_after low high e) _ after (and_from (comes_after e.low e.high f) _ (after-other f e later others.0) both.1)
    ] refl

module _ (e : PatternEdge) where
  pub tokens-with_edge : (es : List PatternEdge) → sum_by pair_tokens (with_edge e es) ≡ pair_tokens e + sum_by pair_tokens es
  tokens-with_edge [] = sum_by-cons pair_tokens e []
  tokens-with_edge (f ∷ fs) = elim (comes_after f.low f.high e) as (λ b. sum_by pair_tokens (if b then f ∷ with_edge e fs else e ∷ f ∷ fs) ≡ pair_tokens e + sum_by pair_tokens (f ∷ fs)) [
    | true ↦ omega (arith, sum_by-cons pair_tokens f (with_edge e fs), tokens-with_edge fs, sum_by-cons pair_tokens f fs)
    | false ↦ sum_by-cons pair_tokens e (f ∷ fs)
  ]

  pub length-with_edge : (es : List PatternEdge) → length (with_edge e es) ≡ length es + 1
  length-with_edge [] = omega arith
  length-with_edge (f ∷ fs) = elim (comes_after f.low f.high e) as (λ b. length (if b then f ∷ with_edge e fs else e ∷ f ∷ fs) ≡ length (f ∷ fs) + 1) [
    | true ↦ omega (arith, length-with_edge fs)
    | false ↦ omega arith
  ]

  -- an edge at its place among others
  pub with_edge-made : (es : List PatternEdge) → let k = length (take_while (λ (f : PatternEdge). comes_after f.low f.high e) es) in (take k es ++ e ∷ []) ++ drop k es ≡ with_edge e es
  with_edge-made [] = refl
  with_edge-made (f ∷ fs) =
      let p : PatternEdge → Bool = λ f. comes_after f.low f.high e in
      ap (λ (xs : List PatternEdge). (take (length xs) (f ∷ fs) ++ e ∷ []) ++ drop (length xs) (f ∷ fs)) (take_while-cons p f fs)
      ∙ (elim (p f) as (λ b. (take (length (cond b (f ∷ take_while p fs) [])) (f ∷ fs) ++ e ∷ []) ++ drop (length (cond b (f ∷ take_while p fs) [])) (f ∷ fs) ≡ (if b then f ∷ with_edge e fs else e ∷ f ∷ fs)) [
        | true ↦ ap (λ (xs : List PatternEdge). f ∷ xs) (with_edge-made fs)
        | false ↦ refl
      ])

-- ---- pairs that are new

-- two numbers that no edge has: neither the one way nor the other
pub others-new : (a b l : ℕ) (es : List PatternEdge) → list_any (has_numbers a b) es ≡ false → HasOthers (record { low = min a b; high = max a b; label = l }) es
others-new a b l [] none = tt
others-new a b l (f ∷ fs) none =
    let parts = or_parts (has_numbers a b f) (list_any (has_numbers a b) fs) none in
    (λ low high. false≢true (sym parts.0 ∙ has f low high (cases_lt a b)), others-new a b l fs parts.1)
  where
    has : (f : PatternEdge) → min a b ≡ f.low → max a b ≡ f.high → (a < b) ⊎ (b ≤ a) → has_numbers a b f ≡ true
    has f low high (inl less) = or_left (eqb a f.low && eqb b f.high) _ (and_from (eqb a f.low) _ (eq-eqb a f.low (omega arith)) (eq-eqb b f.high (omega arith)))
    has f low high (inr most) = or_right (eqb a f.low && eqb b f.high) _ (and_from (eqb a f.high) _ (eq-eqb a f.high (omega arith)) (eq-eqb b f.low (omega arith)))

-- an edge comes last where each of the others comes before it
pub last-with_edge : (low high : ℕ) (acc : List PatternEdge) (e : PatternEdge) (es : List PatternEdge) → come_in_order low high (acc ++ e ∷ es) ≡ true → (comes_after low high e ≡ true) × (with_edge e acc ≡ acc ++ e ∷ [])
last-with_edge low high [] e es all = ((and_parts (comes_after low high e) _ all).0, refl)
last-with_edge low high (f ∷ fs) e es all =
    let both = and_parts (comes_after low high f) (come_in_order f.low f.high (fs ++ e ∷ es)) all in
    let later = last-with_edge f.low f.high fs e es both.1 in
    (after-trans low high f e both.0 later.0, ap (λ b. if b then f ∷ with_edge e fs else e ∷ f ∷ fs) later.0 ∙ ap (λ (xs : List PatternEdge). f ∷ xs) later.1)

-- and then no other joins its ends
pub last-new : (n low high : ℕ) (acc : List PatternEdge) (e : PatternEdge) (es : List PatternEdge) → list_all (is_pair_of n) acc ≡ true → is_pair_of n e ≡ true → come_in_order low high (acc ++ e ∷ es) ≡ true → list_any (has_numbers e.low e.high) acc ≡ false
last-new n low high [] e es pairs pair all = refl
last-new n low high (f ∷ fs) e es pairs pair all =
    let both = and_parts (comes_after low high f) (come_in_order f.low f.high (fs ++ e ∷ es)) all in
    let those = and_parts (is_pair_of n f) (list_all (is_pair_of n) fs) pairs in
    let later = after-told f.low f.high e (last-with_edge f.low f.high fs e es both.1).0 in
    or_from (has_numbers e.low e.high f) _ (other f (pair-less n f those.0) later) (last-new n f.low f.high fs e es those.1 pair both.1)
  where
    other : (f : PatternEdge) → f.low < f.high → After f.low f.high e → has_numbers e.low e.high f ≡ false
    other f less later = false_from_ne_true (has_numbers e.low e.high f) (λ h. ⊎_elim
        (λ one. let both = and_parts (eqb e.low f.low) (eqb e.high f.high) one in same later (eqb-true e.low f.low both.0) (eqb-true e.high f.high both.1))
        (λ other. let both = and_parts (eqb e.low f.high) (eqb e.high f.low) other in turned later (eqb-true e.low f.high both.0) (eqb-true e.high f.low both.1))
        (or_cases (eqb e.low f.low && eqb e.high f.high) (eqb e.low f.high && eqb e.high f.low) h))
      where
        same : After f.low f.high e → e.low ≡ f.low → e.high ≡ f.high → ⊥
        same (inl a) low high = omega arith
        same (inr a) low high = omega (arith, a.1)

        mine : e.low < e.high
        mine = pair-less n e pair

        turned : After f.low f.high e → e.low ≡ f.high → e.high ≡ f.low → ⊥
        turned (inl a) low high = omega (arith, mine, less)
        turned (inr a) low high = omega (arith, mine, less)
