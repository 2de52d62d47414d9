-- What the derivation of a shape tells of it.
use Rattle.std.proofs.Common.{◌≡◌, ℕ, ◌+◌, ◌-◌, ◌*◌, ◌<◌, ◌≤◌, Bool, true, false, cond, not, ◌&&◌, IsTrue, inl, inr, eqb, min, max, nat_lt, nat_le, List, [], ◌∷◌, ◌++◌, length, Option, None, Some, refl, sym, ◌∙◌, arith, length-append, if◌then◌else◌}
use Rattle.std.specs.List.{list_all, list_any, sum_by}
use Rattle.std.proofs.lemmas.Bool.{and_parts, and_from, or_left, not-true, eq-eqb, leb-true, le-leb, lt-ltb, cases_lt, false≢true}
use Rattle.std.proofs.lemmas.List.Sums.{sum_by-cons}
use Rattle.line_fields.specs.meaning.Names.{Names}
use Rattle.conditions.specs.meaning.Fits.{has_numbers}
use Rattle.conditions.specs.meaning.Written.{come_in_order, comes_after, is_pair_of, is_pattern_within, pair_tokens, shape_tokens, most_pattern_vertices}
use Rattle.conditions.specs.declared.pattern.Pattern.{Pattern}
use Rattle.conditions.specs.declared.pattern.PatternEdge.{PatternEdge}
use Rattle.condition_grammar.specs.meaning.Token.{Token, word, opening, closing, comma, semicolon}
use Rattle.condition_grammar.specs.meaning.Grammar.{at_most, is_new_pair, with_edge}
use Rattle.condition_grammar.specs.meaning.Derivations as rule
use Rattle.condition_grammar.specs.meaning.Derivations.{AreEnds, DerivesLabels, DerivesPair, DerivesPairs, DerivesShape}
use Rattle.condition_grammar.proofs.Edges.{HasOthers, all-with_edge, length-with_edge, order-with_edge, others-new, pair-some, tokens-with_edge}
use Rattle.condition_grammar.proofs.Productions.{some_same}

at_most-le : (most : ℕ) (o : Option ℕ) (n : ℕ) → at_most most o ≡ Some n → n ≤ most
at_most-le most None n h = absurd (let no : None ≡ Some n = h in cc)
at_most-le most (Some m) n h = by_test (nat_le m most) refl h
  where
    by_test : (b : Bool) → nat_le m most ≡ b → (if b then Some m else None) ≡ Some n → n ≤ most
    by_test true le e = omega (arith, leb-true m most le, some_same e)
    by_test false le e = absurd (let no : None ≡ Some n = e in cc)

record LabelsFit (ts : List Token) (labels : List ℕ) : Type 0 where
  some : 1 ≤ length labels
  few : length labels ≤ most_pattern_vertices
  tokens : length ts + 1 ≡ length labels + length labels

labels-fit : (ts : List Token) (names : Names) (labels : List ℕ) (after : Names) → DerivesLabels ts names labels after → LabelsFit ts labels
labels-fit _ _ _ _ (rule.one_label w names l after is) = record { some = omega arith; few = omega arith; tokens = omega arith }
labels-fit _ _ _ _ (rule.more_labels ts w names labels mid l after d less is) =
    let it = labels-fit ts names labels mid d in
    let long = length-append labels (l ∷ []) in
    record { some = omega (arith, long); few = omega (arith, long, less); tokens = omega (arith, it.tokens, long, length-append ts (comma ∷ word w ∷ [])) }

record PairFits (n : ℕ) (edges : List PatternEdge) (ts : List Token) (e : PatternEdge) : Type 0 where
  pair : is_pair_of n e ≡ true
  others : HasOthers e edges
  tokens : pair_tokens e ≤ length ts

less : (a b : ℕ) → eqb a b ≡ false → min a b < max a b
less a b differ = elim (cases_lt a b) [
  | inl below ↦ omega arith
  | inr above ↦ elim (cases_lt b a) [ inl below ↦ omega arith | inr same ↦ absurd (false≢true (sym differ ∙ eq-eqb a b (omega arith))) ]
]

ends-fit : (n : ℕ) (edges : List PatternEdge) (one other : List ℕ) (a b l : ℕ) → AreEnds n edges one other a b
    → (is_pair_of n (record { low = min a b; high = max a b; label = l }) ≡ true) × HasOthers (record { low = min a b; high = max a b; label = l }) edges
ends-fit n edges one other a b l ends =
    let new = and_parts (not (eqb a b)) (not (list_any (has_numbers a b) edges)) ends.new in
    let apart = less a b (not-true (eqb a b) new.0) in
    let a_le = at_most-le n _ a ends.one_says in
    let b_le = at_most-le n _ b ends.other_says in (
      and_from (nat_le 1 (min a b) && nat_lt (min a b) (max a b)) _ (and_from (nat_le 1 (min a b)) _ (le-leb 1 (min a b) (omega (arith, ends.some_first, ends.some_second))) (lt-ltb (min a b) (max a b) apart)) (le-leb (max a b) n (omega (arith, a_le, b_le))),
      others-new a b l edges (not-true (list_any (has_numbers a b) edges) new.1),
    )

label_tokens-le : (l : ℕ) → 2 + (if eqb l 0 then 0 else 1) ≤ 3
label_tokens-le l = elim (eqb l 0) as (λ b. 2 + (if b then 0 else 1) ≤ 3) [ true ↦ omega arith | false ↦ omega arith ]

pair-fits : (n : ℕ) (edges : List PatternEdge) (ts : List Token) (names : Names) (e : PatternEdge) (after : Names) → DerivesPair n edges ts names e after → PairFits n edges ts e
pair-fits n edges _ _ _ _ (rule.bare_pair one other a b names ends) = let it = ends-fit n edges one other a b 0 ends in record { pair = it.0; others = it.1; tokens = omega arith }
pair-fits n edges _ _ _ _ (rule.labelled_pair one other a b w names l after ends is) = let it = ends-fit n edges one other a b l ends in record { pair = it.0; others = it.1; tokens = omega (arith, label_tokens-le l) }

record PairsFit (n : ℕ) (ts : List Token) (edges : List PatternEdge) : Type 0 where
  within : list_all (is_pair_of n) edges ≡ true
  order : come_in_order 0 0 edges ≡ true
  some : 1 ≤ length edges
  tokens : sum_by pair_tokens edges + length edges ≤ length ts + 1

first-after : (n : ℕ) (e : PatternEdge) → is_pair_of n e ≡ true → comes_after 0 0 e ≡ true
first-after n e pair = or_left (nat_lt 0 e.low) _ (lt-ltb 0 e.low (omega (arith, pair-some n e pair)))

pairs-fit : (n : ℕ) (ts : List Token) (names : Names) (edges : List PatternEdge) (after : Names) → DerivesPairs n ts names edges after → PairsFit n ts edges
pairs-fit n _ _ _ _ (rule.one_pair ts names e after d) =
    let it = pair-fits n [] ts names e after d in
    record { within = and_from (is_pair_of n e) _ it.pair refl; order = and_from (comes_after 0 0 e) _ (first-after n e it.pair) refl; some = omega arith; tokens = omega (arith, it.tokens, sum_by-cons pair_tokens e []) }
pairs-fit n _ _ _ _ (rule.more_pairs ts us names edges mid e after d p) =
    let it = pairs-fit n ts names edges mid d in
    let one = pair-fits n edges us mid e after p in
    let long = length-with_edge e edges in
    record {
      within = all-with_edge (is_pair_of n) e edges one.pair it.within;
      order = order-with_edge 0 0 e edges (first-after n e one.pair) one.others it.order;
      some = omega (arith, long);
      tokens = omega (arith, it.tokens, one.tokens, tokens-with_edge e edges, long, length-append ts (comma ∷ us));
    }

-- a shape is no larger than one may be, and as it is written no longer than what derives it
pub shape-fits : (ts : List Token) (names : Names) (s : Pattern) (after : Names) → DerivesShape ts names s after → (is_pattern_within s ≡ true) × (shape_tokens s ≤ length ts)
shape-fits _ _ _ _ (rule.edgeless ts names labels after d) =
    let it = labels-fit ts names labels after d in (
      and_from (nat_le 1 (length labels) && nat_le (length labels) most_pattern_vertices && true) true
          (and_from (nat_le 1 (length labels) && nat_le (length labels) most_pattern_vertices) true (and_from (nat_le 1 (length labels)) _ (le-leb 1 (length labels) it.some) (le-leb (length labels) most_pattern_vertices it.few)) refl) refl,
      (let none : sum_by pair_tokens [] ≡ 0 = refl in omega (arith, none, it.tokens, it.some, length-append ts (semicolon ∷ closing ∷ []))),
    )
shape-fits _ _ _ _ (rule.with_edges ts us names labels mid edges after d p) =
    let it = labels-fit ts names labels mid d in
    let those = pairs-fit (length labels) us mid edges after p in (
      and_from (nat_le 1 (length labels) && nat_le (length labels) most_pattern_vertices && list_all (is_pair_of (length labels)) edges) _
          (and_from (nat_le 1 (length labels) && nat_le (length labels) most_pattern_vertices) _ (and_from (nat_le 1 (length labels)) _ (le-leb 1 (length labels) it.some) (le-leb (length labels) most_pattern_vertices it.few)) those.within) those.order,
      omega (arith, it.tokens, it.some, those.tokens, those.some, length-append ts (semicolon ∷ us ++ closing ∷ []), length-append us (closing ∷ [])),
    )
