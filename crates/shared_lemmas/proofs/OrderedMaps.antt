-- The entries of a `BTreeMap`, seen as a finite map.
use Rattle.std.proofs.Common.{◌≡◌, ◌<◌, ◌-◌, true, false, IsTrue, List, [], ◌∷◌, ◌++◌, length, eqb, refl, sym, ap, subst, ◌∙◌, cond, Option, None, Some, arith}
use Rattle.std.specs.List.{AllByRecursion}
use Rattle.std.specs.List.Sorted.{IsStrictlySortedBy}
use Rattle.std.specs.Map.{lookup, keys_of}
use Rattle.std.specs.BTreeMap.{is_at, insert_entry}
use Rattle.std.specs.Ordering.{eq_by_cmp, is_eq, match_ordering}
use Rattle.std.specs.Cmp.{IsTotalOrder, eq_by_cmp_equiv}
use Rattle.std.specs.declared.cmp.Ordering.{Ordering}
use Rattle.std.specs.declared.cmp.Ordering.TheVariants.{Less, Equal, Greater}
use Rattle.std.specs.FinMap as map
use Rattle.std.specs.FinMap.Entries.{put, by_order, find-put}
use Rattle.std.specs.Option.{is_some, option_or}
use Rattle.std.proofs.lemmas.Bool.{false≢true, eqb-true}
use Rattle.std.proofs.lemmas.Bool.Decides.{nat_tests}
use Rattle.std.proofs.lemmas.List.{nil_from_length}
use Rattle.std.proofs.lemmas.Map.Keys.{sorted_head, sorted_tail}

module _ {K X : Type 0} (R : K → K → Ordering) where
  pub lookup-find : (q : K) (es : List (K × X)) → lookup (is_at (R q)) es ≡ map.find R q es
  lookup-find q [] = refl
  lookup-find q (e ∷ es) = ap (cond (eq_by_cmp R q e.0) (Some e.1)) (lookup-find q es)

  insert_entry-put : (es : List (K × X)) (k : K) (v : X) → insert_entry R es k v ≡ put R k v es
  insert_entry-put [] k v = refl
  insert_entry-put (e ∷ es) k v =
      elim (R k e.0) as (λ r. match_ordering r ((k, v) ∷ e ∷ es) ((e.0, v) ∷ es) (e ∷ insert_entry R es k v) ≡ by_order r ((k, v) ∷ e ∷ es) ((e.0, v) ∷ es) (e ∷ put R k v es)) [
        | Less ↦ refl
        | Equal ↦ refl
        | Greater ↦ ap (λ rest. e ∷ rest) (insert_entry-put es k v)
      ]

  put_first : (e : K × X) (es : List (K × X)) → AllByRecursion (λ y. R e.0 y ≡ Less) (keys_of es) → put R e.0 e.1 es ≡ e ∷ es
  put_first e [] below = refl
  put_first e (f ∷ es) below = ap (λ r. by_order r (e ∷ f ∷ es) ((f.0, e.1) ∷ es) (f ∷ put R e.0 e.1 es)) below.0

-- the answers of both, what `insert`, `remove` and a write do to both, and the keys of both
module _ {K X : Type 0} {R : K → K → Ordering} (total : IsTotalOrder R) where
  pub get-seen : (q : K) (es : List (K × X)) → lookup (is_at (R q)) es ≡ map.get (map.from_entries {R = R} es) q
  get-seen q es = lookup-find R q es ∙ sym (map.get-from_entries total es q)

  pub insert-seen : map.IsAntisymmetric R → (es : List (K × X)) (k : K) (v : X) → map.from_entries {R = R} (insert_entry R es k v) ≡ map.insert (map.from_entries es) k v
  insert-seen same es k v =
      map.same_map total same _ _ (λ q.
      map.get-from_entries total _ q
      ∙ ap (map.find R q) (insert_entry-put R es k v)
      ∙ find-put R total q k v es
      ∙ ap (cond (eq_by_cmp R q k) (Some v)) (sym (map.get-from_entries total es q))
      ∙ sym (map.get-insert total _ k v q))

  -- where each look-up but that of k stays
  pub written-seen : map.IsAntisymmetric R → (es left : List (K × X)) (k : K) (v : X) → ((q : K) → lookup (is_at (R q)) left ≡ cond (is_at (R k) q) (Some v) (lookup (is_at (R q)) es)) → map.from_entries {R = R} left ≡ map.insert (map.from_entries es) k v
  written-seen same es left k v is =
      map.same_map total same _ _ (λ q.
      sym (get-seen q left)
      ∙ is q
      ∙ ap (cond (is_at (R k) q) (Some v)) (get-seen q es)
      ∙ ap (λ b. cond b (Some v) (map.get (map.from_entries {R = R} es) q)) ((eq_by_cmp_equiv total).symm k q)
      ∙ sym (map.get-insert total _ k v q))

  pub remove-seen : map.IsAntisymmetric R → (es left : List (K × X)) (k : K) → ((q : K) → lookup (is_at (R q)) left ≡ cond (is_at (R k) q) None (lookup (is_at (R q)) es)) → map.from_entries {R = R} left ≡ map.remove (map.from_entries es) k
  remove-seen same es left k is =
      map.same_map total same _ _ (λ q.
      sym (get-seen q left)
      ∙ is q
      ∙ ap (cond (is_at (R k) q) None) (get-seen q es)
      ∙ ap (λ b. cond b None (map.get (map.from_entries {R = R} es) q)) ((eq_by_cmp_equiv total).symm k q)
      ∙ sym (map.get-remove total _ k q))

  pub entries-seen : (es : List (K × X)) → IsStrictlySortedBy R (keys_of es) → map.entries (map.from_entries {R = R} es) ≡ es
  entries-seen [] sorted = nil_from_length _ (sym (map.len-entries (map.empty {X = X} {R = R})) ∙ map.len-empty R X)
  entries-seen (e ∷ es) sorted =
      map.entries-insert total _ e.0 e.1
      ∙ ap (put R e.0 e.1) (entries-seen es (sorted_tail R _ _ sorted))
      ∙ put_first R e es (sorted_head R _ _ sorted)

  pub keys-seen : (es : List (K × X)) → IsStrictlySortedBy R (keys_of es) → map.keys (map.from_entries {R = R} es) ≡ keys_of es
  keys-seen es sorted = ap keys_of (entries-seen es sorted)

  -- a map that loses a key loses an entry
  pub len-removed : (m : map.FinMap R X) (k : K) → IsTrue (map.contains_key m k) → map.len (map.remove m k) < map.len m
  len-removed m k has =
      let less : map.len (map.remove m k) ≡ map.len m - 1 = map.len-remove total m k ∙ ap (λ b. cond b (map.len m - 1) (map.len m)) has in
      let some : 0 < map.len m = elim (eqb (map.len m) 0) as (λ b. eqb (map.len m) 0 ≡ b → 0 < map.len m) [
        | true ↦ λ e. absurd (false≢true (sym (ap is_some (map.get-empty R k)) ∙ subst (λ n. IsTrue (map.contains_key n k)) (map.empty_of_len m (eqb-true _ _ e)) has))
        | false ↦ λ e. grind (arith, nat_tests)
      ] refl in
      omega arith

  -- an entry that was found was there, and it alone is gone
  pub popped-seen : map.IsAntisymmetric R → (es left : List (K × X)) (m : map.FinMap R X) (k : K) (v : X) → map.from_entries es ≡ m → lookup (is_at (R k)) es ≡ Some v → ((q : K) → lookup (is_at (R q)) left ≡ cond (is_at (R k) q) None (lookup (is_at (R q)) es)) → IsTrue (map.contains_key m k) × (map.from_entries left ≡ map.remove m k)
  popped-seen same es left m k v seen found is =
      (ap is_some (ap (λ n. map.get n k) (sym seen) ∙ sym (get-seen k es) ∙ found), remove-seen same es left k is ∙ ap (λ n. map.remove n k) seen)

pub nothing-left : {X : Type 0} (es : List X) → (0 < length es → false ≡ true) → es ≡ []
nothing-left [] h = refl
nothing-left (e ∷ es) h = absurd (false≢true (h (omega arith)))

-- where a look-up tells that nothing is there, nothing is
pub none_from : {A : Type 0} (o : Option A) → is_some o ≡ false → o ≡ None
none_from None e = refl
none_from (Some x) e = absurd (false≢true (sym e))

-- what is found in two lists of entries, one after the other, and below all of one
module _ {K X : Type 0} (R : K → K → Ordering) where
  pub find-append : (q : K) (es fs : List (K × X)) → map.find R q (es ++ fs) ≡ option_or (map.find R q es) (map.find R q fs)
  find-append q [] fs = refl
  find-append q (e ∷ es) fs =
      elim (eq_by_cmp R q e.0) as (λ b. cond b (Some e.1) (map.find R q (es ++ fs)) ≡ option_or (cond b (Some e.1) (map.find R q es)) (map.find R q fs)) [ true ↦ refl | false ↦ find-append q es fs ]

  pub find-below : (q : K) (es : List (K × X)) → AllByRecursion (λ y. R q y ≡ Less) (keys_of es) → map.find R q es ≡ None
  find-below q [] h = refl
  find-below q (e ∷ es) h = ap (λ r. cond (is_eq r) (Some e.1) (map.find R q es)) h.0 ∙ find-below q es h.1
