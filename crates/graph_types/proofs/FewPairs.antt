-- Where a neighbour stands in a short list, and what an edit there does.
use Rattle.std.proofs.Common.{◌≡◌, ◌≢◌, ◌<◌, ◌≤◌, ◌+◌, ℕ, zero, suc, Bool, true, false, nat_lt, cond, [], ◌∷◌, ◌++◌, length, set, take, drop, slice_get, refl, sym, ap, subst, ◌∙◌, None, Some, arith}
use Rattle.std.specs.BTreeMap.{BTreeMap, IsFromIterResult, is_at}
use Rattle.std.specs.Cmp.{nat_cmp_total, eq_by_cmp_equiv, tied_itself}
use Rattle.std.specs.FinMap as map
use Rattle.std.specs.FinMap.Entries.{find, find-put, put, by_order}
use Rattle.std.specs.List.{AllByRecursion, insert, remove, prefix_len, take_while, refill}
use Rattle.std.specs.List.Sorted.{IsStrictlySortedBy}
use Rattle.std.specs.Map.{keys_of, remove_entry}
use Rattle.std.specs.Option.{is_some, unwrap_or}
use Rattle.std.specs.Ordering.{nat_cmp, eq_by_cmp, is_eq}
use Rattle.std.specs.declared.cmp.Ordering.TheVariants.{Less, Greater}
use Rattle.std.proofs.lemmas.Bool.{false≢true, eqb-true}
use Rattle.std.proofs.lemmas.Bool.Decides.{nat_tests}
use Rattle.std.proofs.lemmas.List.Folds.{length-prefix_len}
use Rattle.std.proofs.lemmas.List.Sums.{prefix_len-le-length}
use Rattle.std.proofs.lemmas.Map.{lookup-remove_entry}
use Rattle.std.proofs.lemmas.Map.Keys.{sorted_head, sorted_tail, IsDistinct-from_sorted}
use Rattle.std.proofs.lemmas.Map.Made.{update_all_none}
use Rattle.std.proofs.Math.Seq.{take-append_seam}
use Rattle.graph_types.specs.storage.Few.{Pairs, IsAscending, StandsIn, place_of}
use Rattle.graph_types.proofs.Rows.{find-below, nat-test}
use Rattle.graph_types.proofs.Views.{entries-seen, get-seen, remove-seen}
use Rattle.shared_lemmas.proofs.Ascending.{all-below}
use Rattle.shared_lemmas.proofs.FiniteMaps.{keys_rise}

passed : (v w : ℕ) → nat_lt w v ≡ true → nat_cmp v w ≡ Greater
passed v w before = grind (arith, nat_tests)

not_reached : (v w : ℕ) → nat_lt w v ≡ false → v ≢ w → nat_cmp v w ≡ Less
not_reached v w after apart = grind (arith, nat_tests)

module _ {V : Type 0} (v : ℕ) where
  prefix-place : (pairs : Pairs V) → prefix_len (λ n. nat_lt n.0 v) pairs ≡ place_of pairs v
  prefix-place [] = refl
  prefix-place (n ∷ pairs) =
      let one : 1 + prefix_len (λ m. nat_lt m.0 v) pairs ≡ suc (place_of pairs v) = omega (arith, prefix-place pairs) in
      ap (λ k. cond (nat_lt n.0 v) k 0) one

  -- as many stand before v as a scan from the start passes
  pub place-passed : (pairs : Pairs V) → length (take_while (λ n. nat_lt n.0 v) pairs) ≡ place_of pairs v
  place-passed pairs = length-prefix_len (λ n. nat_lt n.0 v) pairs ∙ prefix-place pairs

  same_pair : (p q : ℕ × V) → Some p ≡ Some q → p ≡ q
  same_pair p q e = ap (λ o. unwrap_or o p) e

  pub place-in_range : (pairs : Pairs V) → StandsIn pairs v → place_of pairs v < length pairs
  place-in_range [] stands = absurd (false≢true (ap is_some stands.1))
  place-in_range (n ∷ pairs) stands =
      elim (nat_lt n.0 v) as (λ b. slice_get (n ∷ pairs) (cond b (suc (place_of pairs v)) 0) ≡ Some (v, stands.0) → cond b (suc (place_of pairs v)) 0 < suc (length pairs)) [
        | true ↦ λ at. omega (arith, place-in_range pairs (stands.0, at))
        | false ↦ λ _. omega arith
      ] stands.1

  pub find-at_place : (pairs : Pairs V) (value : V) → slice_get pairs (place_of pairs v) ≡ Some (v, value) → find nat_cmp v pairs ≡ Some value
  find-at_place [] value at = absurd (false≢true (ap is_some at))
  find-at_place (n ∷ pairs) value stands =
      elim (nat_lt n.0 v) as (λ b. nat_lt n.0 v ≡ b → slice_get (n ∷ pairs) (cond b (suc (place_of pairs v)) 0) ≡ Some (v, value) → find nat_cmp v (n ∷ pairs) ≡ Some value) [
        | true ↦ λ e at. ap (λ r. cond (is_eq r) (Some n.1) (find nat_cmp v pairs)) (passed v n.0 e) ∙ find-at_place pairs value at
        | false ↦ λ _ at.
            let same = same_pair n (v, value) at in
            ap (λ w. cond (is_eq (nat_cmp v w)) (Some n.1) (find nat_cmp v pairs)) (ap (λ m. m.0) same)
            ∙ ap (λ r. cond (is_eq r) (Some n.1) (find nat_cmp v pairs)) (tied_itself nat_cmp_total v)
            ∙ ap (λ m. Some m.1) same
      ] refl stands

  pub set-at_place : (pairs : Pairs V) (old new : V) → slice_get pairs (place_of pairs v) ≡ Some (v, old) → set pairs (place_of pairs v) (v, new) ≡ put nat_cmp v new pairs
  set-at_place [] old new at = absurd (false≢true (ap is_some at))
  set-at_place (n ∷ pairs) old new stands =
      elim (nat_lt n.0 v) as (λ b. nat_lt n.0 v ≡ b → slice_get (n ∷ pairs) (cond b (suc (place_of pairs v)) 0) ≡ Some (v, old) → set (n ∷ pairs) (cond b (suc (place_of pairs v)) 0) (v, new) ≡ put nat_cmp v new (n ∷ pairs)) [
        | true ↦ λ e at.
            ap (λ rest. n ∷ rest) (set-at_place pairs old new at)
            ∙ ap (λ r. by_order r ((v, new) ∷ n ∷ pairs) ((n.0, new) ∷ pairs) (n ∷ put nat_cmp v new pairs)) (sym (passed v n.0 e))
        | false ↦ λ _ at.
            let same = ap (λ m. m.0) (same_pair n (v, old) at) in
            ap (λ w. (w, new) ∷ pairs) (sym same)
            ∙ ap (λ r. by_order r ((v, new) ∷ n ∷ pairs) ((n.0, new) ∷ pairs) (n ∷ put nat_cmp v new pairs)) (sym (ap (nat_cmp v) same ∙ tied_itself nat_cmp_total v))
      ] refl stands

  pub remove-at_place : (pairs : Pairs V) (old : V) → slice_get pairs (place_of pairs v) ≡ Some (v, old) → remove pairs (place_of pairs v) ≡ remove_entry (is_at (nat_cmp v)) pairs
  remove-at_place [] old at = absurd (false≢true (ap is_some at))
  remove-at_place (n ∷ pairs) old stands =
      elim (nat_lt n.0 v) as (λ b. nat_lt n.0 v ≡ b → slice_get (n ∷ pairs) (cond b (suc (place_of pairs v)) 0) ≡ Some (v, old) → remove (n ∷ pairs) (cond b (suc (place_of pairs v)) 0) ≡ remove_entry (is_at (nat_cmp v)) (n ∷ pairs)) [
        | true ↦ λ e at.
            ap (λ rest. n ∷ rest) (remove-at_place pairs old at)
            ∙ ap (λ r. cond (is_eq r) pairs (n ∷ remove_entry (is_at (nat_cmp v)) pairs)) (sym (passed v n.0 e))
        | false ↦ λ _ at.
            ap (λ r. cond (is_eq r) pairs (n ∷ remove_entry (is_at (nat_cmp v)) pairs)) (sym (ap (nat_cmp v) (ap (λ m. m.0) (same_pair n (v, old) at)) ∙ tied_itself nat_cmp_total v))
      ] refl stands

  -- another stands at its place, or none
  other_at_place : (n : ℕ × V) (pairs : Pairs V) → ¬ StandsIn (n ∷ pairs) v → nat_lt n.0 v ≡ false → v ≢ n.0
  other_at_place n pairs absent after same =
      absent (n.1, ap (λ b. slice_get (n ∷ pairs) (cond b (suc (place_of pairs v)) 0)) after ∙ ap (λ w. Some (w, n.1)) (sym same))

  later_absent : (n : ℕ × V) (pairs : Pairs V) → ¬ StandsIn (n ∷ pairs) v → nat_lt n.0 v ≡ true → ¬ StandsIn pairs v
  later_absent n pairs absent e stands =
      absent (stands.0, ap (λ b. slice_get (n ∷ pairs) (cond b (suc (place_of pairs v)) 0)) e ∙ stands.1)

  pub insert-at_place : (pairs : Pairs V) (new : V) → ¬ StandsIn pairs v → insert pairs (place_of pairs v) (v, new) ≡ put nat_cmp v new pairs
  insert-at_place [] new absent = refl
  insert-at_place (n ∷ pairs) new absent =
      elim (nat_lt n.0 v) as (λ b. nat_lt n.0 v ≡ b → insert (n ∷ pairs) (cond b (suc (place_of pairs v)) 0) (v, new) ≡ put nat_cmp v new (n ∷ pairs)) [
        | true ↦ λ e.
            ap (λ rest. n ∷ rest) (insert-at_place pairs new (later_absent n pairs absent e))
            ∙ ap (λ r. by_order r ((v, new) ∷ n ∷ pairs) ((n.0, new) ∷ pairs) (n ∷ put nat_cmp v new pairs)) (sym (passed v n.0 e))
        | false ↦ λ e. ap (λ r. by_order r ((v, new) ∷ n ∷ pairs) ((n.0, new) ∷ pairs) (n ∷ put nat_cmp v new pairs)) (sym (not_reached v n.0 e (other_at_place n pairs absent e)))
      ] refl

  pub find-absent : (pairs : Pairs V) → IsAscending pairs → ¬ StandsIn pairs v → find nat_cmp v pairs ≡ None
  find-absent [] ascending absent = refl
  find-absent (n ∷ pairs) ascending absent =
      elim (nat_lt n.0 v) as (λ b. nat_lt n.0 v ≡ b → find nat_cmp v (n ∷ pairs) ≡ None) [
        | true ↦ λ e. ap (λ r. cond (is_eq r) (Some n.1) (find nat_cmp v pairs)) (passed v n.0 e) ∙ find-absent pairs (sorted_tail nat_cmp _ _ ascending) (later_absent n pairs absent e)
        | false ↦ λ e.
            let less = not_reached v n.0 e (other_at_place n pairs absent e) in
            find-below nat_cmp v (n ∷ pairs) (less, all-below nat_cmp_total v n.0 (keys_of pairs) less (sorted_head nat_cmp _ _ ascending))
      ] refl

  pub remove-absent : (pairs : Pairs V) → find nat_cmp v pairs ≡ None → remove_entry (is_at (nat_cmp v)) pairs ≡ pairs
  remove-absent [] none = refl
  remove-absent (n ∷ pairs) none =
      elim (is_eq (nat_cmp v n.0)) as (λ b. cond b (Some n.1) (find nat_cmp v pairs) ≡ None → cond b pairs (n ∷ remove_entry (is_at (nat_cmp v)) pairs) ≡ n ∷ pairs) [
        | true ↦ λ found. absurd (false≢true (sym (ap is_some found)))
        | false ↦ λ kept. ap (λ rest. n ∷ rest) (remove-absent pairs kept)
      ] none

  pub place-in_list : (pairs : Pairs V) → place_of pairs v ≤ length pairs
  place-in_list pairs = subst (λ n. n ≤ length pairs) (prefix-place pairs) (prefix_len-le-length (λ n. nat_lt n.0 v) pairs)

-- what is written over a whole list stands there
pub refilled : {V : Type 0} (n : ℕ) (xs ws : Pairs V) → n ≡ length ws → refill n xs ws ≡ ws
refilled n xs ws same = (λ i. take (same i) (ws ++ drop (length ws) xs)) ∙ take-append_seam ws (drop (length ws) xs)

-- what stays of an ascending list ascends
all_but : {V : Type 0} (P : ℕ → Type 0) (test : ℕ → Bool) (pairs : Pairs V) → AllByRecursion P (keys_of pairs) → AllByRecursion P (keys_of (remove_entry test pairs))
all_but P test [] all = tt
all_but P test (n ∷ pairs) all = elim (test n.0) as (λ b. AllByRecursion P (keys_of (cond b pairs (n ∷ remove_entry test pairs)))) [ true ↦ all.1 | false ↦ (all.0, all_but P test pairs all.1) ]

pub IsAscending-remove_entry : {V : Type 0} (test : ℕ → Bool) (pairs : Pairs V) → IsAscending pairs → IsAscending (remove_entry test pairs)
unfolding IsStrictlySortedBy
IsAscending-remove_entry test [] ascending = tt
IsAscending-remove_entry test (n ∷ pairs) ascending =
    elim (test n.0) as (λ b. IsStrictlySortedBy nat_cmp (keys_of (cond b pairs (n ∷ remove_entry test pairs)))) [
      | true ↦ ascending.1
      | false ↦ (all_but (λ w. nat_cmp n.0 w ≡ Less) test pairs ascending.0, IsAscending-remove_entry test pairs ascending.1)
    ]

pub IsAscending-nothing : (V : Type 0) → IsAscending {V = V} []
unfolding IsStrictlySortedBy
IsAscending-nothing V = tt

-- a map that was made of an ascending list has what the list has
pub collected-seen : {V : Type 0} (pairs : Pairs V) (many : BTreeMap ℕ V) → IsAscending pairs → IsFromIterResult nat_cmp pairs many → map.from_entries {R = nat_cmp} many.entries ≡ map.from_entries pairs
collected-seen pairs many ascending made =
    map.same_map nat_cmp_total map.nat_cmp-IsAntisymmetric _ _ (λ v.
    sym (get-seen nat_cmp_total v many.entries)
    ∙ made.0 v
    ∙ update_all_none (eq_by_cmp_equiv nat_cmp_total) (eq_by_cmp nat_cmp) (λ x y. refl) pairs v (IsDistinct-from_sorted nat_cmp (keys_of pairs) ascending)
    ∙ get-seen nat_cmp_total v pairs)

-- a map is without what was removed from its list
pub removed-seen : {V : Type 0} (v : ℕ) (pairs : Pairs V) → IsAscending pairs → map.from_entries {R = nat_cmp} (remove_entry (is_at (nat_cmp v)) pairs) ≡ map.remove (map.from_entries pairs) v
removed-seen v pairs ascending =
    remove-seen nat_cmp_total map.nat_cmp-IsAntisymmetric pairs _ v
    (λ w. lookup-remove_entry (eq_by_cmp_equiv nat_cmp_total) (is_at (nat_cmp v)) (λ x y e. ap (λ u. is_eq (nat_cmp u y)) (eqb-true v x (sym (nat-test v x) ∙ e))) w pairs (IsDistinct-from_sorted nat_cmp (keys_of pairs) ascending))

-- a neighbour that is at some place is there
pub found-at : {V : Type 0} (pairs : Pairs V) (i : ℕ) (n : ℕ × V) → slice_get pairs i ≡ Some n → is_some (find nat_cmp n.0 pairs) ≡ true
found-at [] i n at = absurd (false≢true (ap is_some at))
found-at (m ∷ pairs) zero n at =
    ap (λ w. is_some (cond (is_eq (nat_cmp n.0 w)) (Some m.1) (find nat_cmp n.0 pairs))) (ap (λ o. (unwrap_or o m).0) at)
    ∙ ap (λ r. is_some (cond (is_eq r) (Some m.1) (find nat_cmp n.0 pairs))) (tied_itself nat_cmp_total n.0)
found-at (m ∷ pairs) (suc i) n at = elim (is_eq (nat_cmp n.0 m.0)) as (λ b. is_some (cond b (Some m.1) (find nat_cmp n.0 pairs)) ≡ true) [ true ↦ refl | false ↦ found-at pairs i n at ]

-- a neighbour that is put in a list is put in the map, and the list goes on to ascend
pub put-seen : {V : Type 0} (v : ℕ) (value : V) (pairs : Pairs V) → map.from_entries {R = nat_cmp} (put nat_cmp v value pairs) ≡ map.insert (map.from_entries pairs) v value
put-seen v value pairs =
    map.same_map nat_cmp_total map.nat_cmp-IsAntisymmetric _ _ (λ w.
    map.get-from_entries nat_cmp_total _ w
    ∙ find-put nat_cmp nat_cmp_total w v value pairs
    ∙ ap (cond (eq_by_cmp nat_cmp w v) (Some value)) (sym (map.get-from_entries nat_cmp_total pairs w))
    ∙ sym (map.get-insert nat_cmp_total _ v value w))

pub IsAscending-put : {V : Type 0} (v : ℕ) (value : V) (pairs : Pairs V) → IsAscending pairs → IsAscending (put nat_cmp v value pairs)
IsAscending-put v value pairs ascending =
    subst IsAscending
    (map.entries-insert nat_cmp_total (map.from_entries pairs) v value ∙ ap (put nat_cmp v value) (entries-seen nat_cmp_total pairs ascending))
    (keys_rise (map.insert (map.from_entries {R = nat_cmp} pairs) v value))
