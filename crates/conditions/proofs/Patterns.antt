-- A pattern has few edges.
use Rattle.std.proofs.Common.{ℕ, ◌+◌, ◌*◌, ◌<◌, ◌≤◌, IsTrue, ◌&&◌, nat_lt, nat_le, ⊎_elim, List, [], ◌∷◌, length, arith, if◌then◌else◌, true, false, eqb}
use Rattle.std.specs.List.{list_all, sum_by}
use Rattle.std.proofs.lemmas.Bool.{and_parts, or_cases, eqb-true, ltb-true, leb-true}
use Rattle.std.proofs.lemmas.List.Sums.{sum_by-cons}
use Rattle.conditions.specs.declared.pattern.Pattern.{Pattern}
use Rattle.conditions.specs.declared.pattern.PatternEdge.{PatternEdge}
use Rattle.conditions.specs.meaning.Written.{come_in_order, comes_after, is_pair_of, is_pattern_within, pair_tokens}

-- what the test of an edge says
pub record IsPair (n : ℕ) (e : PatternEdge) : Type 0 where
  pub some : 1 ≤ e.low
  pub apart : e.low < e.high
  pub within : e.high ≤ n

pub pair-is : (n : ℕ) (e : PatternEdge) → IsTrue (is_pair_of n e) → IsPair n e
pair-is n e pair =
    let parts = and_parts (nat_le 1 e.low && nat_lt e.low e.high) (nat_le e.high n) pair in
    let first = and_parts (nat_le 1 e.low) (nat_lt e.low e.high) parts.0 in
    record { some = leb-true 1 e.low first.0; apart = ltb-true e.low e.high first.1; within = leb-true e.high n parts.1 }

-- the place of two numbers up to 8 in a table with a row of 8 for each lower one
abbrev pub table_place : ℕ → ℕ → ℕ
table_place low high = 8 * low + high

pub later : (n low high : ℕ) (e : PatternEdge) → high ≤ n → n ≤ 8 → IsTrue (comes_after low high e) → IsTrue (is_pair_of n e) → table_place low high < table_place e.low e.high
later n low high e few most after pair =
    let is = pair-is n e pair in
    ⊎_elim (λ less. let l = ltb-true low e.low less in omega (arith, l, is))
    (λ tied. let both = and_parts (eqb low e.low) (nat_lt high e.high) tied in let same = eqb-true low e.low both.0 in let more = ltb-true high e.high both.1 in omega (arith, same, more))
    (or_cases (nat_lt low e.low) (eqb low e.low && nat_lt high e.high) after)

few_after : (n low high : ℕ) (es : List PatternEdge) → low ≤ n → high ≤ n → n ≤ 8 → IsTrue (come_in_order low high es) → IsTrue (list_all (is_pair_of n) es) → length es + table_place low high ≤ 72
few_after n low high [] lower few most order pairs = omega (arith, lower, few, most)
few_after n low high (e ∷ es) lower few most order pairs =
    let orders = and_parts (comes_after low high e) (come_in_order e.low e.high es) order in
    let all = and_parts (is_pair_of n e) (list_all (is_pair_of n) es) pairs in
    let here = later n low high e few most orders.0 all.0 in
    let is = pair-is n e all.0 in
    let rest = few_after n e.low e.high es (omega (arith, is)) is.within most orders.1 all.1 in
    omega (arith, rest, here)

-- what the test of a pattern says
pub record IsPattern (s : Pattern) : Type 0 where
  pub some_labels : 1 ≤ length s.labels
  pub few_labels : length s.labels ≤ 8
  pub pairs : IsTrue (list_all (is_pair_of (length s.labels)) s.edges)
  pub order : IsTrue (come_in_order 0 0 s.edges)

pub pattern-within : (s : Pattern) → IsTrue (is_pattern_within s) → IsPattern s
pattern-within s within =
    let n = length s.labels in
    let third = and_parts (nat_le 1 n && nat_le n 8 && list_all (is_pair_of n) s.edges) (come_in_order 0 0 s.edges) within in
    let second = and_parts (nat_le 1 n && nat_le n 8) (list_all (is_pair_of n) s.edges) third.0 in
    let first = and_parts (nat_le 1 n) (nat_le n 8) second.0 in
    record { some_labels = leb-true 1 n first.0; few_labels = leb-true n 8 first.1; pairs = second.1; order = third.1 }

pub few_edges : (s : Pattern) → IsTrue (is_pattern_within s) → length s.edges ≤ 72
few_edges s within =
    let is = pattern-within s within in
    let few = few_after (length s.labels) 0 0 s.edges (omega arith) (omega arith) is.few_labels is.order is.pairs in
    omega (arith, few)

pair_tokens-le : (e : PatternEdge) → pair_tokens e ≤ 3
pair_tokens-le e = elim (eqb e.label 0) as (λ b. 2 + (if b then 0 else 1) ≤ 3) [ true ↦ omega arith | false ↦ omega arith ]

pub sum_by-pair_tokens-le : (es : List PatternEdge) → sum_by pair_tokens es ≤ 3 * length es
sum_by-pair_tokens-le [] = omega arith
sum_by-pair_tokens-le (e ∷ es) = omega (arith, pair_tokens-le e, sum_by-pair_tokens-le es, sum_by-cons pair_tokens e es)
