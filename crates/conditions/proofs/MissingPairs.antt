-- The pairs without an edge are the others than the edges.
use Rattle.std.proofs.Common.{◌≡◌, ℕ, zero, suc, ◌+◌, ◌-◌, ◌*◌, ◌/◌, ◌<◌, Bool, IsTrue, List, [], ◌∷◌, length, map, filter, min, max, refl, sym, ap, subst, ◌∙◌, inl, inr, ⊎_elim, arith, length-append}
use Rattle.std.specs.Cmp.{eq_by_cmp_equiv, ranked}
use Rattle.std.specs.FinMap as finite
use Rattle.std.specs.List.Sorted.{IsStrictlySortedBy}
use Rattle.std.specs.Ordering.{nat_cmp, eq_by_cmp}
use Rattle.std.specs.Set.{is_member}
use Rattle.std.specs.declared.cmp.Ordering.TheVariants.{Less}
use Rattle.std.proofs.lemmas.List.{length-map}
use Rattle.std.proofs.lemmas.List.Filters.{length-filter_both}
use Rattle.std.proofs.lemmas.List.Sums.{length-filter}
use Rattle.std.proofs.lemmas.Map.Keys.{sorted_tail}
use Rattle.std.proofs.lemmas.Map.Made.{length-le_from_is_member}
use Rattle.graph_types.specs.meaning.Graph.{Graph, edge_between, edges_of, has_edge, pair_cmp, vertices_of}
use Rattle.graph_types.specs.meaning.Orders.{pair_cmp_total}
use Rattle.graph_types.specs.meaning.Simple.{IsSimple}
use Rattle.graph_types.proofs.Graph.{pair_cmp-IsAntisymmetric}
use Rattle.mining_model.proofs.VertexPictures.{IsIn-vertices_of}
use Rattle.conditions.specs.declared.condition.Term.TheVariants.{Missing}
use Rattle.conditions.specs.meaning.Counts.{term_count, is_apart, item_pairs}
use Rattle.shared_lemmas.specs.meaning.Membership.{IsDistinct, IsIn}
use Rattle.shared_lemmas.proofs.FiniteMaps.{keys_rise}
use Rattle.shared_lemmas.proofs.Membership.{IsIn-append_cases, IsIn-append_left, IsIn-append_right, IsIn-filter, IsIn-from_filter, IsIn-from_map, IsIn-map, all-at, distinct_append, distinct_by, distinct_filter, distinct_from_sorted, list_any_at, list_any_place}
use Rattle.shared_lemmas.proofs.Orderings.{same_item}

-- how many pairs there are

length-pairs : (xs : List ℕ) → 2 * length (item_pairs xs) + length xs ≡ length xs * length xs
length-pairs [] = refl
length-pairs (x ∷ xs) =
    let rest = length-pairs xs in
    let more : length (item_pairs (x ∷ xs)) ≡ length xs + length (item_pairs xs) = length-append (map (λ (y : ℕ). (x, y)) xs) (item_pairs xs) ∙ ap (λ n. n + length (item_pairs xs)) (length-map xs (λ (y : ℕ). (x, y))) in
    squares (length (item_pairs (x ∷ xs))) (length (item_pairs xs)) (length xs) more rest
  where
    squares : (all few n : ℕ) → all ≡ n + few → 2 * few + n ≡ n * n → 2 * all + suc n ≡ suc n * suc n
    squares all few n more rest = grind arith

halved : (few n : ℕ) → 2 * few + n ≡ n * n → few ≡ n * (n - 1) / 2
halved few zero e = omega arith
halved few (suc n) e =
    let twice : 2 * few ≡ suc n * n = grind arith in
    let less : suc n - 1 ≡ n = omega arith in
    subst (λ k. few ≡ suc n * k / 2) (sym less) (omega (arith, twice))

-- what stands after an item of an ascending list is above it
above : (x : ℕ) (xs : List ℕ) (y : ℕ) → IsStrictlySortedBy nat_cmp (x ∷ xs) → IsIn y xs → x < y
unfolding IsStrictlySortedBy
above x xs y ascending i = less_than x y (all-at (λ z. nat_cmp x z ≡ Less) y xs ascending.0 i)
  where
    less_than : (x y : ℕ) → nat_cmp x y ≡ Less → x < y
    less_than x y less = ranked x y Less (sym less)

-- which pairs there are

abbrev with_first : ℕ → ℕ → ℕ × ℕ
with_first x y = (x, y)

lower_first : (xs : List ℕ) (p : ℕ × ℕ) → IsStrictlySortedBy nat_cmp xs → IsIn p (item_pairs xs) → p.0 < p.1
lower_first [] p rises i = absurd i
lower_first (x ∷ xs) p rises i =
    ⊎_elim (λ j. let m = IsIn-from_map (with_first x) p xs j in subst (λ (q : ℕ × ℕ). q.0 < q.1) (sym m.2) (above x xs m.0 rises m.1)) (lower_first xs p (sorted_tail nat_cmp x xs rises))
    (IsIn-append_cases p (map (with_first x) xs) (item_pairs xs) i)

first_in : (xs : List ℕ) (p : ℕ × ℕ) → IsIn p (item_pairs xs) → IsIn p.0 xs
first_in [] p i = absurd i
first_in (x ∷ xs) p i =
    ⊎_elim (λ j. let m = IsIn-from_map (with_first x) p xs j in inl (ap (λ (q : ℕ × ℕ). q.0) m.2)) (λ j. inr (first_in xs p j))
    (IsIn-append_cases p (map (with_first x) xs) (item_pairs xs) i)

in_pairs : (xs : List ℕ) (x y : ℕ) → IsStrictlySortedBy nat_cmp xs → IsIn x xs → IsIn y xs → x < y → IsIn (x, y) (item_pairs xs)
in_pairs [] x y rises i j less = absurd i
in_pairs (z ∷ zs) x y rises (inl e) (inl f) less = absurd (omega (arith, e, f, less))
in_pairs (z ∷ zs) x y rises (inl e) (inr j) less =
    IsIn-append_left (x, y) (map (with_first z) zs) (item_pairs zs) (subst (λ w. IsIn (w, y) (map (with_first z) zs)) (sym e) (IsIn-map (with_first z) y zs j))
in_pairs (z ∷ zs) x y rises (inr i) (inl f) less = let higher = above z zs x rises i in absurd (omega (arith, f, less, higher))
in_pairs (z ∷ zs) x y rises (inr i) (inr j) less = IsIn-append_right (x, y) (map (with_first z) zs) (item_pairs zs) (in_pairs zs x y (sorted_tail nat_cmp z zs rises) i j less)

-- no pair stands twice

distinct_firsts : (x : ℕ) (xs : List ℕ) → IsStrictlySortedBy nat_cmp xs → IsDistinct (map (with_first x) xs)
distinct_firsts x [] rises = tt
distinct_firsts x (y ∷ ys) rises = (
  λ i. let m = IsIn-from_map (with_first x) (x, y) ys i in let higher = above y ys m.0 rises m.1 in let same = ap (λ (q : ℕ × ℕ). q.1) m.2 in absurd (omega (arith, higher, same)),
  distinct_firsts x ys (sorted_tail nat_cmp y ys rises),
)

distinct_pairs : (xs : List ℕ) → IsStrictlySortedBy nat_cmp xs → IsDistinct (item_pairs xs)
distinct_pairs [] rises = tt
distinct_pairs (x ∷ xs) rises = distinct_append (map (with_first x) xs) (item_pairs xs) (distinct_firsts x xs (sorted_tail nat_cmp x xs rises)) (distinct_pairs xs (sorted_tail nat_cmp x xs rises)) (λ p i j.
    let m = IsIn-from_map (with_first x) p xs i in
    let same = ap (λ (q : ℕ × ℕ). q.0) m.2 in
    let higher = above x xs p.0 rises (first_in xs p j) in
    absurd (omega (arith, higher, same)))

-- the pairs with an edge are the edges

abbrev same_pair : ℕ × ℕ → ℕ × ℕ → Bool
same_pair = eq_by_cmp pair_cmp

same_pair-is : (p q : ℕ × ℕ) → IsTrue (same_pair p q) → p ≡ q
same_pair-is p q h = same_item pair_cmp-IsAntisymmetric p q h

member_from_in : (q : ℕ × ℕ) (ps : List (ℕ × ℕ)) → IsIn q ps → IsTrue (is_member same_pair ps q)
member_from_in q ps i = list_any_at (same_pair q) q ps i ((eq_by_cmp_equiv pair_cmp_total).refl q)

in_from_member : (q : ℕ × ℕ) (ps : List (ℕ × ℕ)) → IsTrue (is_member same_pair ps q) → IsIn q ps
in_from_member q ps h = let place = list_any_place (same_pair q) ps h in subst (λ p. IsIn p ps) (sym (same_pair-is q place.0 place.2)) place.1

between : (x y : ℕ) → x < y → edge_between x y ≡ (x, y)
between x y less =
    let low : min x y ≡ x = grind arith in
    let high : max x y ≡ y = grind arith in
    λ i. (low i, high i)

module _ (g : Graph) (simple : IsSimple g) where
  abbrev all_pairs : List (ℕ × ℕ)
  all_pairs = item_pairs (vertices_of g)

  abbrev is_joined_pair : ℕ × ℕ → Bool
  is_joined_pair p = has_edge g (edge_between p.0 p.1)

  rises : IsStrictlySortedBy nat_cmp (vertices_of g)
  rises = keys_rise g.labels

  edge_from_pair : (q : ℕ × ℕ) → IsTrue (is_member same_pair (filter is_joined_pair all_pairs) q) → IsTrue (is_member same_pair (edges_of g) q)
  edge_from_pair q h =
      let there = IsIn-from_filter is_joined_pair q all_pairs (in_from_member q (filter is_joined_pair all_pairs) h) in
      sym (finite.contains_key-keys g.edges q) ∙ ap (has_edge g) (sym (between q.0 q.1 (lower_first (vertices_of g) q rises there.0))) ∙ there.1

  pair_from_edge : (q : ℕ × ℕ) → IsTrue (is_member same_pair (edges_of g) q) → IsTrue (is_member same_pair (filter is_joined_pair all_pairs) q)
  pair_from_edge q h =
      let edge : IsTrue (has_edge g q) = finite.contains_key-keys g.edges q ∙ h in
      let less = simple.lower_first q edge in
      let ends = simple.ends q edge in
      let there = in_pairs (vertices_of g) q.0 q.1 rises (IsIn-vertices_of g q.0 ends.low) (IsIn-vertices_of g q.1 ends.high) less in
      member_from_in q (filter is_joined_pair all_pairs) (IsIn-filter is_joined_pair q all_pairs there (ap (has_edge g) (between q.0 q.1 less) ∙ edge))

  joined_pairs : length (filter is_joined_pair all_pairs) ≡ length (edges_of g)
  joined_pairs =
      let laws = eq_by_cmp_equiv pair_cmp_total in
      let distinct = distinct_by same_pair same_pair-is in
      let of_pairs = distinct (filter is_joined_pair all_pairs) (distinct_filter is_joined_pair all_pairs (distinct_pairs (vertices_of g) rises)) in
      let of_edges = distinct (edges_of g) (distinct_from_sorted pair_cmp_total (edges_of g) (keys_rise g.edges)) in
      let up = length-le_from_is_member laws (filter is_joined_pair all_pairs) (edges_of g) of_pairs edge_from_pair in
      let down = length-le_from_is_member laws (edges_of g) (filter is_joined_pair all_pairs) of_edges pair_from_edge in
      omega (arith, up, down)

  pub missing_and_edges : term_count Missing g + length (edges_of g) ≡ length (vertices_of g) * (length (vertices_of g) - 1) / 2
  missing_and_edges =
      let n = length (vertices_of g) in
      let all = length-filter_both is_joined_pair (is_apart g) (λ _. refl) all_pairs in
      let missing = length-filter (is_apart g) all_pairs in
      let half = halved (length all_pairs) n (length-pairs (vertices_of g)) in
      let sum : term_count Missing g + length (edges_of g) ≡ length all_pairs = omega (arith, all, missing, joined_pairs) in
      sum ∙ half
