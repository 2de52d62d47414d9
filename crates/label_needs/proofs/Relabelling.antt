-- A condition that looks at no label of a vertex is the same of graphs that differ in these alone.
use Rattle.std.proofs.Common.{◌≡◌, ℕ, ◌+◌, ◌*◌, Bool, true, false, not, ◌&&◌, ◌||◌, List, [], ◌∷◌, length, map as mapped, cond, count_by, None, Some, refl, sym, ap, ◌∙◌, arith}
use Rattle.std.specs.FinMap as map
use Rattle.std.proofs.lemmas.Bool.{true≢false}
use Rattle.std.proofs.lemmas.List.Sums.{sum_by-cons}
use Rattle.std.proofs.lemmas.List.{length-map}
use Rattle.graph_types.specs.meaning.Graph.{Graph, edge_between, ends_at}
use Rattle.conditions.specs.declared.condition.Cond.{Cond}
use Rattle.conditions.specs.declared.condition.Cond.TheOpen.{Cond-F, True, False, Compare, Not, And, Or, Shape}
use Rattle.conditions.specs.declared.condition.Cond.TheFolds.{map-Cond}
use Rattle.conditions.specs.declared.condition.Factor.{Factor}
use Rattle.conditions.specs.declared.condition.Term.{Term}
use Rattle.conditions.specs.declared.condition.Term.TheVariants.{Vertices, Edges, Joins, Kinds, Degree, Missing, Least}
use Rattle.conditions.specs.meaning.Conditions.{comparison_holds, holds, holds_by, sum_value}
use Rattle.conditions.specs.meaning.Counts.{is_asked, item_pairs, largest_of, least_of, term_count, vertex_labels}
use Rattle.conditions.proofs.Forms.{by_form, fold-form, of_form}
use Rattle.label_needs.specs.meaning.Needs.{AreAlike, needs_by, needs_vertex_labels, sum_needs_labels, term_needs_labels}

left_of : (a b : Bool) → (a || b) ≡ false → a ≡ false
left_of true b e = absurd (true≢false e)
left_of false b e = refl

right_of : (a b : Bool) → (a || b) ≡ false → b ≡ false
right_of true b e = absurd (true≢false e)
right_of false b e = e

-- where each item is counted, all are
all_counted : (xs : List ℕ) → count_by (is_asked None) xs ≡ length xs
all_counted [] = refl
all_counted (x ∷ xs) = omega (arith, sum_by-cons (λ (y : ℕ). cond (is_asked None y) 1 0) x xs, all_counted xs)

label_for_each : (g : Graph) → count_by (is_asked None) (vertex_labels g) ≡ length (map.keys g.labels)
label_for_each g = all_counted (vertex_labels g) ∙ length-map (map.entries g.labels) (λ e. e.1) ∙ sym (length-map (map.entries g.labels) (λ e. e.0))

module _ (g h : Graph) (alike : AreAlike g h) where
  term-alike : (term : Term) → term_needs_labels term ≡ false → term_count term g ≡ term_count term h
  term-alike (Vertices None) free = label_for_each g ∙ ap length alike.vertices ∙ sym (label_for_each h)
  term-alike (Vertices (Some label)) free = absurd (true≢false free)
  term-alike (Edges asked) free = ap (λ es. count_by (is_asked asked) (map.values es)) alike.edges
  term-alike (Joins l m) free = absurd (true≢false free)
  term-alike Kinds free = absurd (true≢false free)
  term-alike Degree free = λ i. largest_of (mapped (λ v. count_by (ends_at v) (map.keys (alike.edges i))) (alike.vertices i))
  term-alike Missing free = λ i. count_by (λ p. not (map.contains_key (alike.edges i) (edge_between p.0 p.1))) (item_pairs (alike.vertices i))
  term-alike Least free = λ i. least_of (mapped (λ v. count_by (ends_at v) (map.keys (alike.edges i))) (alike.vertices i))

  sum-alike : (sum : List Factor) → sum_needs_labels sum ≡ false → sum_value sum g ≡ sum_value sum h
  sum-alike [] free = refl
  sum-alike (f ∷ sum) free =
      sum_by-cons (λ (e : Factor). e.times * term_count e.term g) f sum
      ∙ (λ i. f.times * term-alike f.term (left_of _ _ free) i + sum-alike sum (right_of _ _ free) i)
      ∙ sym (sum_by-cons (λ (e : Factor). e.times * term_count e.term h) f sum)

  at_form : (x : Cond-F Cond) → (needs_by (map-Cond Cond Bool needs_vertex_labels x) ≡ false → holds_by (map-Cond Cond (Graph → Bool) holds x) g ≡ holds_by (map-Cond Cond (Graph → Bool) holds x) h)
      → needs_vertex_labels (of_form x) ≡ false → holds (of_form x) g ≡ holds (of_form x) h
  at_form x same free = (λ i. fold-form (Graph → Bool) holds_by x i g) ∙ same (sym (fold-form Bool needs_by x) ∙ free) ∙ sym (λ i. fold-form (Graph → Bool) holds_by x i h)

  pub holds-alike : (c : Cond) → needs_vertex_labels c ≡ false → holds c g ≡ holds c h
  holds-alike = by_form (λ c. needs_vertex_labels c ≡ false → holds c g ≡ holds c h)
      (at_form True (λ _. refl))
      (at_form False (λ _. refl))
      (λ sum op bound. at_form (Compare sum op bound) (λ free. ap (λ n. comparison_holds op n bound) (sum-alike sum free)))
      (λ c p. at_form (Not c) (λ free. ap not (p free)))
      (λ c d p q. at_form (And c d) (λ free i. p (left_of _ _ free) i && q (right_of _ _ free) i))
      (λ c d p q. at_form (Or c d) (λ free i. p (left_of _ _ free) i || q (right_of _ _ free) i))
      (λ s. at_form (Shape s) (λ free. absurd (true≢false free)))
