-- The neighbours in two graphs, ascending.
use Rattle.std.proofs.Common.{◌≡◌, ◌≤◌, ℕ, Bool, true, false, ◌||◌, ◌&&◌, eqb, cond, IsTrue, List, [], ◌∷◌, ◌++◌, refl, sym, ap, ◌∙◌, Option, None, Some, map as mapped, filter, arith}
use Rattle.std.specs.Cmp.{IsTotalOrder, eq_by_cmp_equiv, nat_cmp_total, tied_itself}
use Rattle.std.specs.FinMap as map
use Rattle.std.specs.List.{AllByRecursion, list_any}
use Rattle.std.specs.List.Sorted.{IsStrictlySortedBy}
use Rattle.std.specs.Option.{is_some, option_or}
use Rattle.std.specs.Ordering.{nat_cmp, eq_by_cmp, is_eq}
use Rattle.std.specs.declared.cmp.Ordering.{Ordering}
use Rattle.std.specs.declared.cmp.Ordering.TheVariants.{Less}
use Rattle.std.proofs.lemmas.Bool.{eqb-true, false≢true}
use Rattle.std.proofs.lemmas.Bool.Decides.{nat_tests}
use Rattle.std.proofs.lemmas.List.Kept.{IsStrictlySortedBy-filter}
use Rattle.std.proofs.lemmas.Map.Made.{is_member-filter}
use Rattle.graph_types.specs.meaning.Neighbourhood.{either_near, leads_among, near_at, near_of}
use Rattle.graph_types.specs.storage.Adjacency.{Lists}
use Rattle.graph_types.specs.storage.Ahead.{IsLowest}
use Rattle.graph_types.specs.storage.Found.{is_near, near_found}
use Rattle.graph_types.proofs.Listing.{Lists-alike, Lists-keys, Lists-nothing, same_list}
use Rattle.graph_types.proofs.Rows.{find-append, nat-test}
use Rattle.shared_lemmas.proofs.Ascending.{sorted-cons}
use Rattle.shared_lemmas.proofs.Claims.{all-found, all-weaker}
use Rattle.shared_lemmas.proofs.FiniteMaps.{map-filter}
use Rattle.shared_lemmas.proofs.Orderings.{same_item}

abbrev pub Labels : Type 0
Labels = map.FinMap nat_cmp ℕ

-- the vertex is near before or after
abbrev pub is_either : Labels → Labels → ℕ → Bool
is_either m n v = map.contains_key m v || map.contains_key n v

some_of_either : {A : Type 0} (x y : Option A) → is_some (option_or x y) ≡ (is_some x || is_some y)
some_of_either None y = refl
some_of_either (Some x) y = refl

pub Lists-either : (m n : Labels) → Lists nat_cmp (is_either m n) (either_near m n)
Lists-either m n =
    let both : Labels = map.from_entries (map.entries m ++ map.entries n) in
    Lists-alike (map.contains_key both) (is_either m n) (map.keys both)
    (λ v. ap is_some (map.get-from_entries nat_cmp_total _ v ∙ find-append nat_cmp v (map.entries m) (map.entries n))
    ∙ some_of_either _ _
    ∙ (λ i. is_some (sym (map.get-entries m v) i) || is_some (sym (map.get-entries n v) i)))
    (Lists-keys both)

map-alike : {A B : Type 0} (f g : A → B) (xs : List A) → AllByRecursion (λ x. f x ≡ g x) xs → mapped f xs ≡ mapped g xs
map-alike f g [] alike = refl
map-alike f g (x ∷ xs) alike = λ i. alike.0 i ∷ map-alike f g xs alike.1 i

-- nothing is near in two neighbourhoods of nothing
pub near_of-empty : near_of map.empty map.empty ≡ []
near_of-empty =
    ap (mapped (near_at map.empty map.empty))
    (same_list nat_cmp_total map.nat_cmp-IsAntisymmetric (is_either map.empty map.empty) _ [] (Lists-either map.empty map.empty)
    (Lists-nothing _ (λ v i. is_some (sym (map.get-empty {X = ℕ} nat_cmp v) i) || is_some (sym (map.get-empty {X = ℕ} nat_cmp v) i))))

either_below : (a b : Bool) (P : Type 0) → (IsTrue a → P) → (IsTrue b → P) → IsTrue (a || b) → P
either_below true b P first second has = first refl
either_below false b P first second has = second has

-- without w, the others are near as they were
module _ (m n : Labels) (w : ℕ) where
  still_either : (v : ℕ) → eq_by_cmp nat_cmp v w ≡ false → is_either (map.remove m w) (map.remove n w) v ≡ is_either m n v
  still_either v apart =
      let kept : (k : Labels) → map.get (map.remove k w) v ≡ map.get k v = λ k. map.get-remove nat_cmp_total k w v ∙ ap (λ b. cond b None (map.get k v)) apart in
      λ i. is_some (kept m i) || is_some (kept n i)

  either_gone : (v : ℕ) → eq_by_cmp nat_cmp v w ≡ true → is_either (map.remove m w) (map.remove n w) v ≡ false
  either_gone v same =
      let none : (k : Labels) → map.get (map.remove k w) v ≡ None = λ k. map.get-remove nat_cmp_total k w v ∙ ap (λ b. cond b None (map.get k v)) same in
      λ i. is_some (none m i) || is_some (none n i)

  others_above : IsLowest m n w → (v : ℕ) → list_any (eq_by_cmp nat_cmp v) (either_near (map.remove m w) (map.remove n w)) ≡ true → nat_cmp w v ≡ Less
  others_above low v in_list =
      let has : is_either (map.remove m w) (map.remove n w) v ≡ true = sym ((Lists-either (map.remove m w) (map.remove n w)).members v) ∙ in_list in
      elim (eq_by_cmp nat_cmp v w) as (λ b. eq_by_cmp nat_cmp v w ≡ b → nat_cmp w v ≡ Less) [
        | true ↦ λ same. absurd (false≢true (sym (either_gone v same) ∙ has))
        | false ↦ λ apart.
            let above : w ≤ v = either_below (map.contains_key m v) (map.contains_key n v) (w ≤ v) (low.first v) (low.second v) (sym (still_either v apart) ∙ has) in
            let differ : eqb v w ≡ false = sym (nat-test v w) ∙ apart in
            grind (arith, nat_tests)
      ] refl

-- the lowest stands first, and then what is near without it
pub near_of-next : (m n : Labels) (w : ℕ) → IsLowest m n w → near_of m n ≡ near_at m n w ∷ near_of (map.remove m w) (map.remove n w)
near_of-next m n w low =
    let rest = either_near (map.remove m w) (map.remove n w) in
    let found = all-found (eq_by_cmp nat_cmp) (λ v. ap is_eq (tied_itself nat_cmp_total v)) rest in
    let above : AllByRecursion (λ v. nat_cmp w v ≡ Less) rest = all-weaker _ _ (others_above m n w low) rest found in
    let lists : Lists nat_cmp (is_either m n) (w ∷ rest) = record {
      ascending = sorted-cons nat_cmp w rest above (Lists-either (map.remove m w) (map.remove n w)).ascending;
      members = λ v.
          ap (λ b. eq_by_cmp nat_cmp v w || b) ((Lists-either (map.remove m w) (map.remove n w)).members v)
          ∙ elim (eq_by_cmp nat_cmp v w) as (λ b. eq_by_cmp nat_cmp v w ≡ b → (b || is_either (map.remove m w) (map.remove n w) v) ≡ is_either m n v) [
            | true ↦ λ same. sym (ap (is_either m n) (eqb-true v w (sym (nat-test v w) ∙ same)) ∙ low.there)
            | false ↦ still_either m n w v
          ] refl;
    } in
    ap (mapped (near_at m n)) (same_list nat_cmp_total map.nat_cmp-IsAntisymmetric (is_either m n) _ _ (Lists-either m n) lists)
    ∙ ap (λ ns. near_at m n w ∷ ns)
    (map-alike (near_at m n) (near_at (map.remove m w) (map.remove n w)) rest
    (all-weaker (λ v. nat_cmp w v ≡ Less) _
    (λ v less.
    let apart : eq_by_cmp nat_cmp v w ≡ false = nat-test v w ∙ grind (arith, nat_tests) in
    let kept : (k : Labels) → map.get k v ≡ map.get (map.remove k w) v = λ k. sym (map.get-remove nat_cmp_total k w v ∙ ap (λ b. cond b None (map.get k v)) apart) in
    λ i. record { to = v; before = kept m i; after = kept n i })
    rest above))

-- what is listed and passes a test
Lists-filtered : {K : Type 0} {R : K → K → Ordering} → IsTotalOrder R → map.IsAntisymmetric R → (p q : K → Bool) (ks : List K) → Lists R p ks → Lists R (λ k. p k && q k) (filter q ks)
Lists-filtered {R = R} total same p q ks lists = record {
  ascending = IsStrictlySortedBy-filter R q ks lists.ascending;
  members = λ k. is_member-filter (eq_by_cmp_equiv total) q k (λ x e. ap q (same_item same k x e)) ks ∙ ap (λ b. b && q k) (lists.members k);
}

and_swap : (a b : Bool) → (a && b) ≡ (b && a)
and_swap true true = refl
and_swap true false = refl
and_swap false true = refl
and_swap false false = refl

-- to look up some vertices finds those of all that are among them
pub near_found-kept : (m n : Labels) (among : List ℕ) → IsStrictlySortedBy nat_cmp among → near_found m n among ≡ filter (leads_among among) (near_of m n)
near_found-kept m n among ascending =
    let given : Lists nat_cmp (λ v. list_any (eq_by_cmp nat_cmp v) among) among = record { ascending = ascending; members = λ _. refl } in
    let found = Lists-filtered nat_cmp_total map.nat_cmp-IsAntisymmetric (λ v. list_any (eq_by_cmp nat_cmp v) among) (is_either m n) among given in
    let kept = Lists-filtered nat_cmp_total map.nat_cmp-IsAntisymmetric (is_either m n) (λ v. list_any (eqb v) among) (either_near m n) (Lists-either m n) in
    sym (map-filter (near_at m n) is_near among)
    ∙ ap (mapped (near_at m n))
    (same_list nat_cmp_total map.nat_cmp-IsAntisymmetric (λ v. is_either m n v && list_any (eqb v) among) _ _
    (Lists-alike _ _ _ (λ v. and_swap (list_any (eq_by_cmp nat_cmp v) among) (is_either m n v) ∙ (λ i. is_either m n v && list_any (λ x. nat-test v x i) among)) found)
    kept)
    ∙ map-filter (near_at m n) (leads_among among) (either_near m n)
