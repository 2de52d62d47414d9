-- All orders of a list's items are the lists that have these items, each once; and the counts of a graph that has a shape.
use Rattle.std.proofs.Common.{◌≡◌, ℕ, suc, ◌+◌, ◌≤◌, ◌&&◌, IsTrue, List, [], ◌∷◌, ◌++◌, length, refl, sym, ap, subst, ◌∙◌, inl, inr, ⊎_elim, arith, eqb, length-append}
use Rattle.std.proofs.lemmas.Bool.{and_parts}
use Rattle.graph_types.specs.meaning.Graph.{Graph, edges_of, vertices_of}
use Rattle.conditions.specs.declared.pattern.Pattern.{Pattern}
use Rattle.conditions.specs.meaning.Fits.{are_all_alike, has_counts_of, has_shape, have_labels_of, inserted, insertions, is_fit, numbered, orders}
use Rattle.shared_lemmas.specs.meaning.Membership.{IsDistinct, IsIn}
use Rattle.shared_lemmas.proofs.Membership.{IsIn-append_cases, IsIn-append_left, IsIn-append_right, IsIn-from_map, IsIn-map, list_any_place}

-- a list in which an item stands between two parts of another
record IsInserted (x : ℕ) (ys vs : List ℕ) : Type 0 where
  before : List ℕ
  after : List ℕ
  was : ys ≡ before ++ after
  is : vs ≡ before ++ x ∷ after

insertions-place : (x : ℕ) (ys vs : List ℕ) → IsIn vs (insertions x ys) → IsInserted x ys vs
insertions-place x [] vs (inl e) = record { before = []; after = []; was = refl; is = e }
insertions-place x [] vs (inr i) = absurd i
insertions-place x (y ∷ ys) vs (inl e) = record { before = []; after = y ∷ ys; was = refl; is = e }
insertions-place x (y ∷ ys) vs (inr i) =
    let m = IsIn-from_map (λ (zs : List ℕ). y ∷ zs) vs (insertions x ys) i in
    let p = insertions-place x ys m.0 m.1 in
    record { before = y ∷ p.before; after = p.after; was = ap (λ (zs : List ℕ). y ∷ zs) p.was; is = m.2 ∙ ap (λ (zs : List ℕ). y ∷ zs) p.is }

insertions-at : (x : ℕ) (before after : List ℕ) → IsIn (before ++ x ∷ after) (insertions x (before ++ after))
insertions-at x [] [] = inl refl
insertions-at x [] (y ∷ after) = inl refl
insertions-at x (y ∷ before) after = inr (IsIn-map (λ (zs : List ℕ). y ∷ zs) (before ++ x ∷ after) (insertions x (before ++ after)) (insertions-at x before after))

-- one of the lists, and the item put into it
record IsOneInserted (x : ℕ) (lists : List (List ℕ)) (vs : List ℕ) : Type 0 where
  into : List ℕ
  there : IsIn into lists
  put : IsInserted x into vs

inserted-place : (x : ℕ) (lists : List (List ℕ)) (vs : List ℕ) → IsIn vs (inserted x lists) → IsOneInserted x lists vs
inserted-place x [] vs i = absurd i
inserted-place x (ys ∷ lists) vs i =
    ⊎_elim (λ j. record { into = ys; there = inl refl; put = insertions-place x ys vs j })
    (λ j. let r = inserted-place x lists vs j in record { into = r.into; there = inr r.there; put = r.put })
    (IsIn-append_cases vs (insertions x ys) (inserted x lists) i)

inserted-at : (x : ℕ) (ys : List ℕ) (lists : List (List ℕ)) (vs : List ℕ) → IsIn ys lists → IsIn vs (insertions x ys) → IsIn vs (inserted x lists)
inserted-at x ys [] vs i j = absurd i
inserted-at x ys (zs ∷ lists) vs (inl e) j = IsIn-append_left vs (insertions x zs) (inserted x lists) (subst (λ l. IsIn vs (insertions x l)) e j)
inserted-at x ys (zs ∷ lists) vs (inr i) j = IsIn-append_right vs (insertions x zs) (inserted x lists) (inserted-at x ys lists vs i j)

-- each order has as many items, has no others, and has none twice

pub length-order : (xs vs : List ℕ) → IsIn vs (orders xs) → length vs ≡ length xs
length-order [] vs (inl e) = ap length e
length-order [] vs (inr i) = absurd i
length-order (x ∷ xs) vs i =
    let one = inserted-place x (orders xs) vs i in
    let rest = length-order xs one.into one.there in
    omega (arith, rest, ap length one.put.was, ap length one.put.is, length-append one.put.before one.put.after, length-append one.put.before (x ∷ one.put.after))

pub in_order : (xs vs : List ℕ) (v : ℕ) → IsIn vs (orders xs) → IsIn v vs → IsIn v xs
in_order [] vs v (inl e) j = subst (λ (l : List ℕ). IsIn v l) e j
in_order [] vs v (inr i) j = absurd i
in_order (x ∷ xs) vs v i j =
    let one = inserted-place x (orders xs) vs i in
    let rest = λ (k : IsIn v (one.put.before ++ one.put.after)). in_order xs one.into v one.there (subst (λ (l : List ℕ). IsIn v l) (sym one.put.was) k) in
    ⊎_elim (λ k. inr (rest (IsIn-append_left v one.put.before one.put.after k)))
    (λ k. ⊎_elim inl (λ l. inr (rest (IsIn-append_right v one.put.before one.put.after l))) k)
    (IsIn-append_cases v one.put.before (x ∷ one.put.after) (subst (λ (l : List ℕ). IsIn v l) one.put.is j))

distinct_insert : (x : ℕ) (before after : List ℕ) → ¬ (IsIn x (before ++ after)) → IsDistinct (before ++ after) → IsDistinct (before ++ x ∷ after)
distinct_insert x [] after absent d = (absent, d)
distinct_insert x (y ∷ before) after absent d = (
  λ i. ⊎_elim (λ j. d.0 (IsIn-append_left y before after j)) (λ j. ⊎_elim (λ e. absent (inl (sym e))) (λ k. d.0 (IsIn-append_right y before after k)) j) (IsIn-append_cases y before (x ∷ after) i),
  distinct_insert x before after (λ i. absent (inr i)) d.1,
)

pub distinct_order : (xs vs : List ℕ) → IsDistinct xs → IsIn vs (orders xs) → IsDistinct vs
distinct_order [] vs d (inl e) = subst (λ (l : List ℕ). IsDistinct l) (sym e) tt
distinct_order [] vs d (inr i) = absurd i
distinct_order (x ∷ xs) vs d i =
    let one = inserted-place x (orders xs) vs i in
    let rest = subst (λ (l : List ℕ). IsDistinct l) one.put.was (distinct_order xs one.into d.1 one.there) in
    let absent = λ (j : IsIn x (one.put.before ++ one.put.after)). d.0 (in_order xs one.into x one.there (subst (λ (l : List ℕ). IsIn x l) (sym one.put.was) j)) in
    subst (λ (l : List ℕ). IsDistinct l) (sym one.put.is) (distinct_insert x one.put.before one.put.after absent rest)

-- and each list that is so is an order

record IsSplit {A : Type 0} (x : A) (vs : List A) : Type 0 where
  left : List A
  right : List A
  is : vs ≡ left ++ x ∷ right

split_at_item : {A : Type 0} (x : A) (vs : List A) → IsIn x vs → IsSplit x vs
split_at_item x [] i = absurd i
split_at_item x (v ∷ vs) (inl e) = record { left = []; right = vs; is = ap (λ y. y ∷ vs) (sym e) }
split_at_item x (v ∷ vs) (inr i) = let r = split_at_item x vs i in record { left = v ∷ r.left; right = r.right; is = ap (λ ys. v ∷ ys) r.is }

-- an item of the list that isn't the one at which it was split
other_side : {A : Type 0} (x v : A) (vs : List A) (s : IsSplit x vs) → IsIn v vs → ¬ (v ≡ x) → IsIn v (s.left ++ s.right)
other_side x v vs s i apart =
    ⊎_elim (λ j. IsIn-append_left v s.left s.right j) (λ j. ⊎_elim (λ e. absurd (apart e)) (λ k. IsIn-append_right v s.left s.right k) j)
    (IsIn-append_cases v s.left (x ∷ s.right) (subst (λ l. IsIn v l) s.is i))

shorter : {A : Type 0} (x : A) (vs : List A) (s : IsSplit x vs) → suc (length (s.left ++ s.right)) ≡ length vs
shorter x vs s = omega (arith, ap length s.is, length-append s.left s.right, length-append s.left (x ∷ s.right))

-- there are no more different items of a list than it has
pub no_more : {A : Type 0} (vs xs : List A) → IsDistinct vs → ((v : A) → IsIn v vs → IsIn v xs) → length vs ≤ length xs
no_more [] xs d within = omega arith
no_more (v ∷ vs) xs d within =
    let s = split_at_item v xs (within v (inl refl)) in
    let fewer = shorter v xs s in
    let rest = no_more vs (s.left ++ s.right) d.1 (λ w j. other_side v w xs s (within w (inr j)) (λ e. d.0 (subst (λ y. IsIn y vs) e j))) in
    omega (arith, fewer, rest)

-- different items of a list, as many as it has, are all of them
pub covered : (vs xs : List ℕ) → IsDistinct vs → ((v : ℕ) → IsIn v vs → IsIn v xs) → length vs ≡ length xs → (x : ℕ) → IsIn x xs → IsIn x vs
covered [] [] d within same x i = absurd i
covered [] (y ∷ xs) d within same x i = absurd (omega (arith, same))
covered (v ∷ vs) xs d within same x i =
    let s = split_at_item v xs (within v (inl refl)) in
    let fewer = shorter v xs s in
    let rest = covered vs (s.left ++ s.right) d.1 (λ w j. other_side v w xs s (within w (inr j)) (λ e. d.0 (subst (λ y. IsIn y vs) e j))) (omega (arith, same, fewer)) in
    ⊎_elim (λ k. inr (rest x (IsIn-append_left x s.left s.right k)))
    (λ k. ⊎_elim inl (λ l. inr (rest x (IsIn-append_right x s.left s.right l))) k)
    (IsIn-append_cases x s.left (v ∷ s.right) (subst (λ (l : List ℕ). IsIn x l) s.is i))

order_from_all : (xs vs : List ℕ) → IsDistinct xs → ((x : ℕ) → IsIn x xs → IsIn x vs) → length vs ≡ length xs → IsIn vs (orders xs)
order_from_all [] [] d all same = inl refl
order_from_all [] (v ∷ vs) d all same = absurd (omega (arith, same))
order_from_all (x ∷ xs) vs d all same =
    let s = split_at_item x vs (all x (inl refl)) in
    let fewer = shorter x vs s in
    let rest = order_from_all xs (s.left ++ s.right) d.1 (λ y i. other_side x y vs s (all y (inr i)) (λ e. d.0 (subst (λ z. IsIn z xs) e i))) (omega (arith, same, fewer)) in
    subst (λ (l : List ℕ). IsIn l (inserted x (orders xs))) (sym s.is) (inserted-at x (s.left ++ s.right) (orders xs) (s.left ++ x ∷ s.right) rest (insertions-at x s.left s.right))

pub order_from : (xs vs : List ℕ) → IsDistinct xs → IsDistinct vs → ((v : ℕ) → IsIn v vs → IsIn v xs) → length vs ≡ length xs → IsIn vs (orders xs)
order_from xs vs d e within same = order_from_all xs vs d (covered vs xs e within same) same

-- a graph that has a shape has as many vertices and edges as the pattern
pub shape_counts : (s : Pattern) (g : Graph) → IsTrue (has_shape s g) → IsTrue (eqb (length (vertices_of g)) (length s.labels) && eqb (length (edges_of g)) (length s.edges))
shape_counts s g h =
    let place = list_any_place (is_fit s g) (orders (vertices_of g)) h in
    let vs = place.0 in
    let alike = and_parts (has_counts_of s g vs && have_labels_of s g vs) (are_all_alike s g (numbered 1 vs)) place.2 in
    let counts = and_parts (has_counts_of s g vs) (have_labels_of s g vs) alike.0 in
    subst (λ n. IsTrue (eqb n (length s.labels) && eqb (length (edges_of g)) (length s.edges))) (length-order (vertices_of g) vs place.1) counts.0
