-- Where all vertices of a simple graph are joined as the pattern says, it has as many edges as the pattern.
use Rattle.std.proofs.Common.{◌≡◌, ℕ, zero, suc, ◌+◌, ◌-◌, ◌<◌, ◌≤◌, true, false, ◌&&◌, cond, IsTrue, List, [], ◌∷◌, length, get_or, map, min, max, refl, sym, ap, subst, ◌∙◌, ◌⊎◌, inl, inr, ⊎_elim, eqb, Option, None, Some, arith}
use Rattle.std.specs.FinMap as finite
use Rattle.std.specs.List.{list_all}
use Rattle.std.specs.Option.{is_some}
use Rattle.std.proofs.lemmas.Bool.{and_from, and_parts, or_cases, or_left, eqb-true, eq-eqb, false≢true, false_from_ne_true}
use Rattle.std.proofs.lemmas.List.{length-map}
use Rattle.graph_types.specs.meaning.Graph.{Graph, edge_between, edges_of, has_edge, label_between, vertices_of}
use Rattle.graph_types.specs.meaning.Orders.{pair_cmp_total}
use Rattle.graph_types.specs.meaning.Simple.{IsSimple}
use Rattle.graph_types.proofs.Graph.{pair_cmp-IsAntisymmetric}
use Rattle.mining_model.proofs.VertexPictures.{IsIn-vertices_of}
use Rattle.conditions.specs.declared.pattern.Pattern.{Pattern}
use Rattle.conditions.specs.declared.pattern.PatternEdge.{PatternEdge}
use Rattle.conditions.specs.meaning.Fits.{are_all_alike, are_joined_alike, drawn_label, has_numbers, numbered, same_label}
use Rattle.conditions.specs.meaning.Written.{come_in_order, comes_after, is_pair_of}
use Rattle.conditions.proofs.Orders.{no_more}
use Rattle.conditions.proofs.Patterns.{IsPattern, IsPair, later, pair-is, table_place}
use Rattle.shared_lemmas.specs.meaning.Membership.{IsDistinct, IsIn}
use Rattle.shared_lemmas.proofs.FiniteMaps.{IsIn-keys, contains_key-at, keys_rise}
use Rattle.shared_lemmas.proofs.Membership.{IsIn-from_map, IsIn-get_or, IsIn-map, IsIn-place, distinct_from_sorted, list_all_at}

-- the vertex with a number
abbrev at : List ℕ → ℕ → ℕ
at vs zero = 0
at vs (suc k) = get_or vs k 0

-- where two are alike, one is joined exactly where the other is
both_some : (a b : Option ℕ) → IsTrue (same_label a b) → is_some a ≡ is_some b
both_some None None h = refl
both_some None (Some m) h = absurd (false≢true h)
both_some (Some l) None h = absurd (false≢true h)
both_some (Some l) (Some m) h = refl

numbered-at : (n k : ℕ) (vs : List ℕ) → k < length vs → IsIn (n + k, get_or vs k 0) (numbered n vs)
numbered-at n k [] within = absurd (omega (arith, within))
numbered-at n zero (v ∷ vs) within = let same : n + 0 ≡ n = omega arith in inl (ap (λ (m : ℕ). (m, v)) same)
numbered-at n (suc k) (v ∷ vs) within =
    let same : n + suc k ≡ suc n + k = omega arith in
    inr (subst (λ m. IsIn (m, get_or vs k 0) (numbered (suc n) vs)) (sym same) (numbered-at (suc n) k vs (omega (arith, within))))

module _ (s : Pattern) (g : Graph) where
  alike-at : (n k m : ℕ) (vs : List ℕ) → IsTrue (are_all_alike s g (numbered n vs)) → k < m → m < length vs → IsTrue (are_joined_alike s g (n + k, get_or vs k 0) (n + m, get_or vs m 0))
  alike-at n k m [] h less within = absurd (omega (arith, within))
  alike-at n zero zero (v ∷ vs) h less within = absurd (omega (arith, less))
  alike-at n zero (suc m) (v ∷ vs) h less within =
      let first : n + 0 ≡ n = omega arith in
      let second : n + suc m ≡ suc n + m = omega arith in
      let parts = and_parts (list_all (are_joined_alike s g (n, v)) (numbered (suc n) vs)) (are_all_alike s g (numbered (suc n) vs)) h in
      subst (λ i. IsTrue (are_joined_alike s g (i, v) (n + suc m, get_or vs m 0))) (sym first)
      (subst (λ j. IsTrue (are_joined_alike s g (n, v) (j, get_or vs m 0))) (sym second)
      (list_all_at (are_joined_alike s g (n, v)) (suc n + m, get_or vs m 0) (numbered (suc n) vs) (numbered-at (suc n) m vs (omega (arith, within))) parts.0))
  alike-at n (suc k) zero (v ∷ vs) h less within = absurd (omega (arith, less))
  alike-at n (suc k) (suc m) (v ∷ vs) h less within =
      let first : n + suc k ≡ suc n + k = omega arith in
      let second : n + suc m ≡ suc n + m = omega arith in
      let parts = and_parts (list_all (are_joined_alike s g (n, v)) (numbered (suc n) vs)) (are_all_alike s g (numbered (suc n) vs)) h in
      subst (λ i. IsTrue (are_joined_alike s g (i, get_or vs k 0) (n + suc m, get_or vs m 0))) (sym first)
      (subst (λ j. IsTrue (are_joined_alike s g (suc n + k, get_or vs k 0) (j, get_or vs m 0))) (sym second)
      (alike-at (suc n) k m vs parts.1 (omega (arith, less)) (omega (arith, within))))

-- the edge of the pattern that joins two numbers

own_numbers : (e : PatternEdge) → has_numbers e.low e.high e ≡ true
own_numbers e = or_left (eqb e.low e.low && eqb e.high e.high) (eqb e.low e.high && eqb e.high e.low) (and_from (eqb e.low e.low) (eqb e.high e.high) (eq-eqb e.low e.low refl) (eq-eqb e.high e.high refl))

drawn-some : (es : List PatternEdge) (e : PatternEdge) → IsIn e es → is_some (drawn_label es e.low e.high) ≡ true
drawn-some [] e i = absurd i
drawn-some (f ∷ es) e i =
    elim (has_numbers e.low e.high f) as (λ b. has_numbers e.low e.high f ≡ b → is_some (cond b (Some f.label) (drawn_label es e.low e.high)) ≡ true) [
      | true ↦ λ _. refl
      | false ↦ λ no. ⊎_elim (λ same. absurd (false≢true (sym no ∙ subst (λ x. has_numbers e.low e.high x ≡ true) same (own_numbers e)))) (λ later. drawn-some es e later) i
    ] refl

record IsDrawn (es : List PatternEdge) (i j : ℕ) : Type 0 where
  edge : PatternEdge
  there : IsIn edge es
  numbers : IsTrue (has_numbers i j edge)

from_drawn : (es : List PatternEdge) (i j : ℕ) → is_some (drawn_label es i j) ≡ true → IsDrawn es i j
from_drawn [] i j some = absurd (false≢true some)
from_drawn (f ∷ es) i j some =
    elim (has_numbers i j f) as (λ b. has_numbers i j f ≡ b → is_some (cond b (Some f.label) (drawn_label es i j)) ≡ true → IsDrawn (f ∷ es) i j) [
      | true ↦ λ here _. record { edge = f; there = inl refl; numbers = here }
      | false ↦ λ _ later. let r = from_drawn es i j later in record { edge = r.edge; there = inr r.there; numbers = r.numbers }
    ] refl some

-- the edge of the graph that joins two vertices

module _ (g : Graph) where
  edge_from_label : (x y : ℕ) → is_some (label_between g x y) ≡ true → IsTrue (has_edge g (edge_between x y))
  edge_from_label x y some =
      elim (eqb x y) as (λ b. is_some (cond b None (finite.get g.edges (edge_between x y))) ≡ true → is_some (finite.get g.edges (edge_between x y)) ≡ true) [
        | true ↦ λ no. absurd (false≢true no)
        | false ↦ λ h. h
      ] some

  label_from_edge : (x y : ℕ) → ¬ (x ≡ y) → IsTrue (has_edge g (edge_between x y)) → is_some (label_between g x y) ≡ true
  label_from_edge x y apart edge = ap (λ b. is_some (cond b None (finite.get g.edges (edge_between x y)))) (false_from_ne_true (eqb x y) (λ t. apart (eqb-true x y t))) ∙ edge

one_place : (vs : List ℕ) (k m : ℕ) → IsDistinct vs → k < length vs → m < length vs → get_or vs k 0 ≡ get_or vs m 0 → k ≡ m
one_place [] k m d p q e = absurd (omega (arith, p))
one_place (v ∷ vs) zero zero d p q e = refl
one_place (v ∷ vs) zero (suc m) d p q e = absurd (d.0 (subst (λ x. IsIn x vs) (sym e) (IsIn-get_or vs m 0 (omega (arith, q)))))
one_place (v ∷ vs) (suc k) zero d p q e = absurd (d.0 (subst (λ x. IsIn x vs) e (IsIn-get_or vs k 0 (omega (arith, p)))))
one_place (v ∷ vs) (suc k) (suc m) d p q e = ap suc (one_place vs k m d.1 (omega (arith, p)) (omega (arith, q)) e)

one_number : (vs : List ℕ) (i j : ℕ) → IsDistinct vs → 1 ≤ i → 1 ≤ j → i ≤ length vs → j ≤ length vs → at vs i ≡ at vs j → i ≡ j
one_number vs zero j d p q r t e = absurd (omega (arith, p))
one_number vs (suc k) zero d p q r t e = absurd (omega (arith, q))
one_number vs (suc k) (suc m) d p q r t e = ap suc (one_place vs k m d (omega (arith, r)) (omega (arith, t)) e)

same_two : (a b c d : ℕ) → min a b ≡ min c d → max a b ≡ max c d → ((a ≡ c) × (b ≡ d)) ⊎ ((a ≡ d) × (b ≡ c))
same_two a b c d low high = grind arith

module _ (s : Pattern) (g : Graph) (vs : List ℕ) (is : IsPattern s) (simple : IsSimple g) (distinct : IsDistinct vs) (all : (x : ℕ) → IsIn x (vertices_of g) → IsIn x vs) (long : length vs ≡ length s.labels) (alike : IsTrue (are_all_alike s g (numbered 1 vs))) where
  abbrev n : ℕ
  n = length s.labels

  joined : (i j : ℕ) → 1 ≤ i → i < j → j ≤ n → is_some (label_between g (at vs i) (at vs j)) ≡ is_some (drawn_label s.edges i j)
  joined zero j some less within = absurd (omega (arith, some))
  joined (suc k) zero some less within = absurd (omega (arith, less))
  joined (suc k) (suc m) some less within =
      let first : 1 + k ≡ suc k = omega arith in
      let second : 1 + m ≡ suc m = omega arith in
      both_some (label_between g (get_or vs k 0) (get_or vs m 0)) (drawn_label s.edges (suc k) (suc m))
      (subst (λ i. IsTrue (are_joined_alike s g (i, get_or vs k 0) (suc m, get_or vs m 0))) first
      (subst (λ j. IsTrue (are_joined_alike s g (1 + k, get_or vs k 0) (j, get_or vs m 0))) second (alike-at s g 1 k m vs alike (omega (arith, less)) (omega (arith, within, long)))))

  abbrev drawn_at : PatternEdge → ℕ × ℕ
  drawn_at e = edge_between (at vs e.low) (at vs e.high)

  pair_of : (e : PatternEdge) → IsIn e s.edges → IsPair n e
  pair_of e i = pair-is n e (list_all_at (is_pair_of n) e s.edges i is.pairs)

  -- each edge of the pattern is one of the graph
  edge_there : (e : PatternEdge) → IsIn e s.edges → IsIn (drawn_at e) (edges_of g)
  edge_there e i =
      let pair = pair_of e i in
      IsIn-keys pair_cmp_total g.edges pair_cmp-IsAntisymmetric (drawn_at e) (edge_from_label g (at vs e.low) (at vs e.high) (joined e.low e.high pair.some pair.apart pair.within ∙ drawn-some s.edges e i))

  same_ends : (e f : PatternEdge) → IsPair n e → IsPair n f → drawn_at e ≡ drawn_at f → (e.low ≡ f.low) × (e.high ≡ f.high)
  same_ends e f p q same =
      ⊎_elim (λ t. (
        one_number vs e.low f.low distinct p.some q.some (omega (arith, p, long)) (omega (arith, q, long)) t.0,
        one_number vs e.high f.high distinct (omega (arith, p)) (omega (arith, q)) (omega (arith, p, long)) (omega (arith, q, long)) t.1,
      ))
      (λ t.
      let across = one_number vs e.low f.high distinct p.some (omega (arith, q)) (omega (arith, p, long)) (omega (arith, q, long)) t.0 in
      let back = one_number vs e.high f.low distinct (omega (arith, p)) q.some (omega (arith, p, long)) (omega (arith, q, long)) t.1 in
      absurd (omega (arith, p, q, across, back)))
      (same_two (at vs e.low) (at vs e.high) (at vs f.low) (at vs f.high) (ap (λ (r : ℕ × ℕ). r.0) same) (ap (λ (r : ℕ × ℕ). r.1) same))

  all_later : (low high : ℕ) (es : List PatternEdge) (e : PatternEdge) → high ≤ n → IsTrue (come_in_order low high es) → IsTrue (list_all (is_pair_of n) es) → IsIn e es → table_place low high < table_place e.low e.high
  all_later low high [] e few order pairs i = absurd i
  all_later low high (f ∷ es) e few order pairs i =
      let orders = and_parts (comes_after low high f) (come_in_order f.low f.high es) order in
      let each = and_parts (is_pair_of n f) (list_all (is_pair_of n) es) pairs in
      let here = later n low high f few is.few_labels orders.0 each.0 in
      ⊎_elim (λ same. subst (λ (x : PatternEdge). table_place low high < table_place x.low x.high) (sym same) here)
      (λ j. let rest = all_later f.low f.high es e (pair-is n f each.0).within orders.1 each.1 j in omega (arith, here, rest)) i

  distinct_edges : (low high : ℕ) (es : List PatternEdge) → IsTrue (come_in_order low high es) → IsTrue (list_all (is_pair_of n) es) → IsDistinct (map drawn_at es)
  distinct_edges low high [] order pairs = tt
  distinct_edges low high (e ∷ es) order pairs =
      let orders = and_parts (comes_after low high e) (come_in_order e.low e.high es) order in
      let each = and_parts (is_pair_of n e) (list_all (is_pair_of n) es) pairs in
      let pair = pair-is n e each.0 in (
        λ i.
            let m = IsIn-from_map drawn_at (drawn_at e) es i in
            let same = same_ends e m.0 pair (pair-is n m.0 (list_all_at (is_pair_of n) m.0 es m.1 each.1)) m.2 in
            let after = all_later e.low e.high es m.0 pair.within orders.1 each.1 m.1 in
            absurd (omega (arith, same.0, same.1, after)),
        distinct_edges e.low e.high es orders.1 each.1,
      )

  -- each edge of the graph is one of the pattern
  drawn_from : (q : ℕ × ℕ) (i j x y : ℕ) → at vs i ≡ x → at vs j ≡ y → edge_between x y ≡ q → ¬ (x ≡ y) → 1 ≤ i → i < j → j ≤ n → IsTrue (has_edge g q) → IsIn q (map drawn_at s.edges)
  drawn_from q i j x y first second same apart some less within edge =
      let label = label_from_edge g x y apart (subst (λ (e : ℕ × ℕ). IsTrue (has_edge g e)) (sym same) edge) in
      let drawn = from_drawn s.edges i j (sym (joined i j some less within) ∙ (λ k. is_some (label_between g (first k) (second k))) ∙ label) in
      let e = drawn.edge in
      let ends : drawn_at e ≡ q =
      ⊎_elim (λ t.
      let parts = and_parts (eqb i e.low) (eqb j e.high) t in
      (λ k. edge_between (at vs (sym (eqb-true i e.low parts.0) k)) (at vs (sym (eqb-true j e.high parts.1) k))) ∙ (λ k. edge_between (first k) (second k)) ∙ same)
      (λ t.
      let parts = and_parts (eqb i e.high) (eqb j e.low) t in
      (λ k. edge_between (at vs (sym (eqb-true j e.low parts.1) k)) (at vs (sym (eqb-true i e.high parts.0) k))) ∙ (λ k. edge_between (second k) (first k)) ∙ turned y x ∙ same)
      (or_cases (eqb i e.low && eqb j e.high) (eqb i e.high && eqb j e.low) drawn.numbers) in
      subst (λ (e : ℕ × ℕ). IsIn e (map drawn_at s.edges)) ends (IsIn-map drawn_at e s.edges drawn.there)
    where
      turned : (a b : ℕ) → edge_between a b ≡ edge_between b a
      turned a b =
          let low : min a b ≡ min b a = omega arith in
          let high : max a b ≡ max b a = omega arith in
          λ k. (low k, high k)

  edge_drawn : (q : ℕ × ℕ) → IsIn q (edges_of g) → IsIn q (map drawn_at s.edges)
  edge_drawn q i =
      let edge = contains_key-at pair_cmp_total g.edges q i in
      let less = simple.lower_first q edge in
      let ends = simple.ends q edge in
      let x = IsIn-place q.0 vs (all q.0 (IsIn-vertices_of g q.0 ends.low)) in
      let y = IsIn-place q.1 vs (all q.1 (IsIn-vertices_of g q.1 ends.high)) in
      by x.0 y.0 x.1 y.1 (x.2 0) (y.2 0) less edge (order x.0 y.0 (λ e. let same = ap (λ k. get_or vs k 0) e in omega (arith, same, x.2 0, y.2 0, less)))
    where
      order : (k m : ℕ) → ¬ (k ≡ m) → (k < m) ⊎ (m < k)
      order k m apart = grind arith

      up : q.0 < q.1 → edge_between q.0 q.1 ≡ q
      up less =
          let low : min q.0 q.1 ≡ q.0 = omega (arith, less) in
          let high : max q.0 q.1 ≡ q.1 = omega (arith, less) in
          λ k. (low k, high k)

      down : q.0 < q.1 → edge_between q.1 q.0 ≡ q
      down less =
          let low : min q.1 q.0 ≡ q.0 = omega (arith, less) in
          let high : max q.1 q.0 ≡ q.1 = omega (arith, less) in
          λ k. (low k, high k)

      by : (k m : ℕ) → k < length vs → m < length vs → get_or vs k 0 ≡ q.0 → get_or vs m 0 ≡ q.1 → q.0 < q.1 → IsTrue (has_edge g q) → (k < m) ⊎ (m < k) → IsIn q (map drawn_at s.edges)
      by k m in_k in_m first second less edge (inl before) = drawn_from q (suc k) (suc m) q.0 q.1 first second (up less) (λ e. absurd (omega (arith, e, less))) (omega arith) (omega (arith, before)) (omega (arith, in_m, long)) edge
      by k m in_k in_m first second less edge (inr after) = drawn_from q (suc m) (suc k) q.1 q.0 second first (down less) (λ e. absurd (omega (arith, e, less))) (omega arith) (omega (arith, after)) (omega (arith, in_k, long)) edge

  pub as_many_edges : length (edges_of g) ≡ length s.edges
  as_many_edges =
      let each = no_more (map drawn_at s.edges) (edges_of g) (distinct_edges 0 0 s.edges is.order is.pairs) (λ q i. let m = IsIn-from_map drawn_at q s.edges i in subst (λ (e : ℕ × ℕ). IsIn e (edges_of g)) (sym m.2) (edge_there m.0 m.1)) in
      let whole = no_more (edges_of g) (map drawn_at s.edges) (distinct_from_sorted pair_cmp_total (edges_of g) (keys_rise g.edges)) edge_drawn in
      omega (arith, each, whole, length-map s.edges drawn_at)
