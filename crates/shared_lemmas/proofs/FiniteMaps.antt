-- The keys of finite maps, and what retaining some of them leaves.
use Rattle.std.proofs.Common.{◌≡◌, Bool, true, false, ◌&&◌, ◌||◌, cond, IsTrue, List, [], ◌∷◌, map, filter, Option, None, Some, refl, sym, ap, subst, ◌∙◌}
use Rattle.std.specs.Cmp.{IsTotalOrder, eq_by_cmp_equiv, tied_itself}
use Rattle.std.specs.FinMap as finite
use Rattle.std.specs.FinMap.Entries.{below_all, is_sorted, where_key, is_sorted-where_key, find-where_key}
use Rattle.std.specs.List.{AllByRecursion}
use Rattle.std.specs.List.Sorted.{IsStrictlySortedBy}
use Rattle.std.specs.Option.{is_some}
use Rattle.std.specs.Ordering.{eq_by_cmp, is_eq, is_lt}
use Rattle.std.specs.declared.cmp.Ordering.{Ordering}
use Rattle.std.specs.declared.cmp.Ordering.TheVariants.{Less, Equal, Greater}
use Rattle.std.proofs.lemmas.Bool.{and_parts, false≢true}
use Rattle.std.proofs.lemmas.List.{nil_from_length}
use Rattle.shared_lemmas.specs.meaning.Membership.{IsIn}
use Rattle.shared_lemmas.proofs.Booleans.{true_of, is_some-kept}
use Rattle.shared_lemmas.proofs.Membership.{list_any_at, list_any_place}
use Rattle.shared_lemmas.proofs.Orderings.{Less-is, same_item}

-- the keys

module _ {K X : Type 0} (R : K → K → Ordering) where
  below_each : (k : K) (es : List (K × X)) → below_all R k es ≡ true → AllByRecursion (λ q. R k q ≡ Less) (map (λ e. e.0) es)
  below_each k [] below = tt
  below_each k (e ∷ es) below =
      let parts = and_parts (is_lt (R k e.0)) (below_all R k es) below in
      ((Less-is (R k e.0)).0 parts.0, below_each k es parts.1)

  sorted_keys : (es : List (K × X)) → is_sorted R es ≡ true → IsStrictlySortedBy R (map (λ e. e.0) es)
  unfolding IsStrictlySortedBy
  sorted_keys [] s = tt
  sorted_keys (e ∷ es) s =
      let parts = and_parts (below_all R e.0 es) (is_sorted R es) s in
      (below_each e.0 es parts.0, sorted_keys es parts.1)

-- the keys of a finite map ascend
pub keys_rise : {K X : Type 0} {R : K → K → Ordering} (m : finite.FinMap R X) → IsStrictlySortedBy R (finite.keys m)
keys_rise {R = R} m = sorted_keys R (finite.entries m) (true_of _ (finite.entries_sorted m))

module _ {K X : Type 0} {R : K → K → Ordering} (total : IsTotalOrder R) (m : finite.FinMap R X) where
  pub contains_key-at : (k : K) → IsIn k (finite.keys m) → IsTrue (finite.contains_key m k)
  contains_key-at k i = finite.contains_key-keys m k ∙ list_any_at (eq_by_cmp R k) k (finite.keys m) i ((eq_by_cmp_equiv total).refl k)

  pub IsIn-keys : finite.IsAntisymmetric R → (k : K) → IsTrue (finite.contains_key m k) → IsIn k (finite.keys m)
  IsIn-keys exact k has =
      let place = list_any_place (eq_by_cmp R k) (finite.keys m) (sym (finite.contains_key-keys m k) ∙ has) in
      subst (λ x. IsIn x (finite.keys m)) (sym (same_item exact k place.0 place.2)) place.1

  pub contains_key-insert : (k : K) (v : X) (q : K) → IsTrue (finite.contains_key m q) → IsTrue (finite.contains_key (finite.insert m k v) q)
  contains_key-insert k v q had =
      subst (λ found. IsTrue (is_some found)) (sym (finite.get-insert total m k v q))
      (elim (eq_by_cmp R q k) as (λ b. IsTrue (is_some (cond b (Some v) (finite.get m q)))) [ true ↦ refl | false ↦ had ])

  pub contains_key-inserted : (k : K) (v : X) → IsTrue (finite.contains_key (finite.insert m k v) k)
  contains_key-inserted k v =
      ap is_some (finite.get-insert total m k v k) ∙ ap (λ r. is_some (cond (is_eq r) (Some v) (finite.get m k))) (tied_itself total k)

pub entries-empty : {K X : Type 0} (R : K → K → Ordering) → finite.entries (finite.empty {X = X} {R = R}) ≡ []
entries-empty {X = X} R = nil_from_length _ (sym (finite.len-entries (finite.empty {X = X} {R = R})) ∙ finite.len-empty R X)

-- what is retained

pub map-filter : {X Y : Type 0} (f : X → Y) (p : Y → Bool) (xs : List X) → map f (filter (λ x. p (f x)) xs) ≡ filter p (map f xs)
map-filter f p [] = refl
map-filter f p (x ∷ xs) =
    let rest = map-filter f p xs in
    elim (p (f x)) as (λ b. map f (cond b (x ∷ filter (λ y. p (f y)) xs) (filter (λ y. p (f y)) xs)) ≡ cond b (f x ∷ filter p (map f xs)) (filter p (map f xs))) [ true ↦ ap (λ ys. f x ∷ ys) rest | false ↦ rest ]

none_either : {X : Type 0} (b c : Bool) → ◌≡◌ {A = Option X} (cond b None None) (cond c None None)
none_either true true = refl
none_either true false = refl
none_either false true = refl
none_either false false = refl

twice : {X : Type 0} (a b : Bool) (o : Option X) → (IsTrue b → IsTrue a) → cond b (cond a o None) None ≡ cond b o None
twice true b o h = refl
twice false true o h = absurd (false≢true (h refl))
twice false false o h = refl

module _ {K X : Type 0} {R : K → K → Ordering} (exact : finite.IsAntisymmetric R) (m : finite.FinMap R X) where
  pub get-kept : (p : K → Bool) (k : K) → finite.get (finite.retain_keys m p) k ≡ cond (p k) (finite.get m k) None
  get-kept p k = finite.get-retain_keys m p k (λ x t. ap p (sym (exact k x t)))

  pub contains_key-kept : (p : K → Bool) (k : K) → finite.contains_key (finite.retain_keys m p) k ≡ (p k && finite.contains_key m k)
  contains_key-kept p k = ap is_some (get-kept p k) ∙ is_some-kept (p k) (finite.get m k)

module _ {K X : Type 0} {R : K → K → Ordering} (total : IsTotalOrder R) (exact : finite.IsAntisymmetric R) (m : finite.FinMap R X) where
  -- tests that agree on the keys retain the same
  pub retain_keys-same : (p r : K → Bool) → ((k : K) → IsTrue (finite.contains_key m k) → p k ≡ r k) → finite.retain_keys m p ≡ finite.retain_keys m r
  retain_keys-same p r agree = finite.same_map total exact _ _ (λ k. get-kept exact m p k ∙ found k (finite.get m k) refl ∙ sym (get-kept exact m r k))
    where
      found : (k : K) (o : Option X) → finite.get m k ≡ o → cond (p k) o None ≡ cond (r k) o None
      found k None is = none_either (p k) (r k)
      found k (Some x) is = ap (λ b. cond b (Some x) None) (agree k (ap is_some is))

  -- of the keys that were retained some are retained
  pub retain_keys-again : (first then : K → Bool) → ((k : K) → IsTrue (then k) → IsTrue (first k)) → finite.retain_keys (finite.retain_keys m first) then ≡ finite.retain_keys m then
  retain_keys-again first then within = finite.same_map total exact _ _ (λ q.
      get-kept exact (finite.retain_keys m first) then q
      ∙ ap (λ o. cond (then q) o None) (get-kept exact m first q)
      ∙ twice (first q) (then q) (finite.get m q) (within q)
      ∙ sym (get-kept exact m then q))

  pub empty-kept : finite.empty ≡ finite.retain_keys m (λ _. false)
  empty-kept = finite.same_map total exact _ _ (λ k. finite.get-empty R k ∙ sym (get-kept exact m (λ _. false) k))

  -- one key more
  pub insert-retain_keys : (p : K → Bool) (k : K) (v : X) → finite.get m k ≡ Some v → finite.insert (finite.retain_keys m p) k v ≡ finite.retain_keys m (λ x. eq_by_cmp R x k || p x)
  insert-retain_keys p k v is = finite.same_map total exact _ _ (λ x.
      finite.get-insert total (finite.retain_keys m p) k v x
      ∙ ap (cond (eq_by_cmp R x k) (Some v)) (get-kept exact m p x)
      ∙ elim (R x k) as (λ r. R x k ≡ r → cond (is_eq r) (Some v) (cond (p x) (finite.get m x) None) ≡ cond (is_eq r || p x) (finite.get m x) None) [
        | Less ↦ λ _. refl
        | Equal ↦ λ tied. sym is ∙ ap (finite.get m) (sym (exact x k tied))
        | Greater ↦ λ _. refl
      ] refl
      ∙ sym (get-kept exact m (λ x. eq_by_cmp R x k || p x) x))

  pub entries-retain_keys : (kept : K → Bool) → finite.entries (finite.retain_keys m kept) ≡ filter (λ e. kept e.0) (finite.entries m)
  entries-retain_keys kept =
      let left = where_key R kept (finite.entries m) in
      let sorted = is_sorted-where_key R kept (finite.entries m) (finite.entries_sorted m) in
      let is = finite.same_map total exact (finite.retain_keys m kept) (finite.from_sorted left) (λ q.
      get-kept exact m kept q
      ∙ ap (λ o. cond (kept q) o None) (finite.get-entries m q)
      ∙ sym (finite.get-from_sorted R left q sorted ∙ find-where_key R kept q (λ x t. ap kept (sym (exact q x t))) (finite.entries m))) in
      ap finite.entries is ∙ finite.entries-from_sorted R left sorted

  pub keys-retain_keys : (kept : K → Bool) → finite.keys (finite.retain_keys m kept) ≡ filter kept (finite.keys m)
  keys-retain_keys kept = ap (map (λ e. e.0)) (entries-retain_keys kept) ∙ map-filter (λ (e : K × X). e.0) kept (finite.entries m)
