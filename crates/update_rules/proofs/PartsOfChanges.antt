-- Changes that are parted among shards.
use Rattle.std.proofs.Common.{◌≡◌, ◌<◌, ◌≤◌, ◌+◌, ℕ, zero, suc, Bool, true, false, cond, if◌then◌else◌, eqb, List, [], ◌∷◌, ◌++◌, map, filter, Some, unwrap_or, refl, sym, ap, ◌∙◌, inl, inr, ⊎_elim, arith}
use Rattle.std.specs.BTreeMap.{BTreeMap, is_at}
use Rattle.std.specs.Cmp.{nat_cmp_total, nat_cmp_is}
use Rattle.std.specs.FinMap as finite
use Rattle.std.specs.List.{AllByRecursion, range_with_len}
use Rattle.std.specs.List.Sorted.{IsStrictlySortedBy}
use Rattle.std.specs.Map.{keys_of, lookup}
use Rattle.std.specs.Option.{is_some}
use Rattle.std.specs.Ordering.{eq_by_cmp, nat_cmp}
use Rattle.std.specs.Set.{is_member}
use Rattle.std.specs.declared.cmp.Ordering.TheVariants.{Less}
use Rattle.std.proofs.lemmas.Bool.{false≢true, eqb-true, cases_eq}
use Rattle.std.proofs.lemmas.Bool.Decides.{nat_tests}
use Rattle.std.proofs.lemmas.List.Elements.{filter-append}
use Rattle.graph_types.proofs.Listing.{same_list}
use Rattle.shared_lemmas.specs.meaning.Membership.{IsIn}
use Rattle.shared_lemmas.proofs.Claims.{all-weaker}
use Rattle.shared_lemmas.proofs.FiniteMaps.{map-filter}
use Rattle.update_rules.specs.calls.Sharing.{in_shard, some_list, AreShared, TakesIn}
use Rattle.update_rules.specs.declared.changes.Change.{Change}
use Rattle.update_rules.specs.declared.shards.Part.{Part}
use Rattle.update_rules.specs.meaning.Parts.{is_some_list, part_of, parts_of, shard_of}
use Rattle.update_rules.proofs.Lookups.{Lists-passing, member-from_in, member-lookup, own-lookups, map-entries}

-- numbers in a row

above_range : (a b n : ℕ) → a < b → AllByRecursion (λ y. nat_cmp a y ≡ Less) (range_with_len b n)
above_range a b zero below = tt
above_range a b (suc n) below = (sym (nat_cmp_is a b Less below), above_range a (b + 1) n (omega arith))

range_rise : (a n : ℕ) → IsStrictlySortedBy nat_cmp (range_with_len a n)
unfolding IsStrictlySortedBy
range_rise a zero = tt
range_rise a (suc n) = (above_range a (a + 1) n (omega arith), range_rise (a + 1) n)

IsIn-range : (a n k : ℕ) → a ≤ k → k < a + n → IsIn k (range_with_len a n)
IsIn-range a zero k from to = absurd (omega (arith, from, to))
IsIn-range a (suc n) k from to = ⊎_elim (λ e. inl (sym e)) (λ apart. inr (IsIn-range (a + 1) n k (omega (arith, from, apart)) (omega (arith, to)))) (cases_eq a k)

-- one change more

given : (xs : List Change) → unwrap_or (some_list xs) [] ≡ xs
given [] = refl
given (x ∷ xs) = refl

some-push : (xs : List Change) (c : Change) → some_list (xs ++ c ∷ []) ≡ Some (xs ++ c ∷ [])
some-push [] c = refl
some-push (x ∷ xs) c = refl

append_none : (xs : List Change) → xs ++ [] ≡ xs
append_none [] = refl
append_none (x ∷ xs) = ap (λ ys. x ∷ ys) (append_none xs)

eqb-turned : (x y : ℕ) → eqb x y ≡ eqb y x
eqb-turned x y = grind (arith, nat_tests)

pushed : (here : Bool) (xs : List Change) (c : Change) → (if here then Some (unwrap_or (some_list xs) [] ++ c ∷ []) else some_list xs) ≡ some_list (xs ++ cond here (c ∷ []) [])
pushed true xs c = ap (λ ys. Some (ys ++ c ∷ [])) (given xs) ∙ sym (some-push xs c)
pushed false xs c = ap some_list (sym (append_none xs))

module _ (shards : ℕ) where
  pub AreShared-more : (old new : BTreeMap ℕ (List Change)) (xs : List Change) (c : Change) → AreShared shards old xs → TakesIn old new (shard_of shards c) c → AreShared shards new (xs ++ c ∷ [])
  AreShared-more old new xs c was takes = λ s.
      let at = shard_of shards c in
      takes s
      ∙ ap (λ o. if eqb s at then Some (unwrap_or o [] ++ c ∷ []) else o) (was s)
      ∙ pushed (eqb s at) (in_shard shards s xs) c
      ∙ ap (λ b. some_list (in_shard shards s xs ++ cond b (c ∷ []) [])) (eqb-turned s at)
      ∙ ap some_list (sym (filter-append (λ d. eqb (shard_of shards d) s) xs (c ∷ [])))

  -- only a shard below the number of shards has changes
  below_shards : 1 ≤ shards → (s : ℕ) (changes : List Change) → is_some_list (in_shard shards s changes) ≡ true → s < shards
  below_shards some s [] h = absurd (false≢true h)
  below_shards some s (c ∷ changes) h =
      elim (eqb (shard_of shards c) s) as (λ b. eqb (shard_of shards c) s ≡ b → is_some_list (cond b (c ∷ in_shard shards s changes) (in_shard shards s changes)) ≡ true → s < shards) [
        | true ↦ λ e _. let is = eqb-true (shard_of shards c) s e in omega (arith, is, some)
        | false ↦ λ _ t. below_shards some s changes t
      ] refl h

  module _ (changes : List Change) (some : 1 ≤ shards) where
    -- the parts of the shards that have changes, where these ascend
    pub parts-given : (which : List ℕ) → IsStrictlySortedBy nat_cmp which → ((s : ℕ) → is_member (eq_by_cmp nat_cmp) which s ≡ is_some_list (in_shard shards s changes)) →
        map (part_of shards changes) which ≡ parts_of shards changes
    parts-given which ascending members =
        let has : ℕ → Bool = λ s. is_some_list (in_shard shards s changes) in
        ap (map (part_of shards changes))
        (same_list nat_cmp_total finite.nat_cmp-IsAntisymmetric has which (filter has (range_with_len 0 shards))
        (record { ascending = ascending; members = members })
        (Lists-passing nat_cmp_total finite.nat_cmp-IsAntisymmetric has (range_with_len 0 shards) (range_rise 0 shards)
        (λ s t. member-from_in nat_cmp_total finite.nat_cmp-IsAntisymmetric s (range_with_len 0 shards) (IsIn-range 0 shards s (omega arith) (omega (arith, below_shards some s changes t))))))
        ∙ map-filter (part_of shards changes) (λ part. is_some_list part.changes) (range_with_len 0 shards)

  some_is : (xs ys : List Change) → some_list xs ≡ Some ys → xs ≡ ys
  some_is [] ys e = cc
  some_is (x ∷ xs) ys e = cc

  some_told : (xs : List Change) → is_some (some_list xs) ≡ is_some_list xs
  some_told [] = refl
  some_told (x ∷ xs) = refl

  -- the entries of the map that has them are the parts
  pub parts-listed : (map_of : BTreeMap ℕ (List Change)) (changes : List Change) → 1 ≤ shards → IsStrictlySortedBy nat_cmp (keys_of map_of.entries) → AreShared shards map_of changes
      → map (λ e. record { shard = e.0; changes = e.1 }) map_of.entries ≡ parts_of shards changes
  parts-listed map_of changes some ordered shared =
      let made : ℕ → List Change → Part = λ s cs. record { shard = s; changes = cs } in
      map-entries (λ _ _. true) made (λ s. in_shard shards s changes) map_of.entries
      (all-weaker (λ e. lookup (is_at (nat_cmp e.0)) map_of.entries ≡ Some e.1) (λ e. in_shard shards e.0 changes ≡ e.1) (λ e is. some_is _ _ (sym (shared e.0) ∙ is)) map_of.entries (own-lookups nat_cmp_total map_of.entries ordered))
      ∙ parts-given changes some (keys_of map_of.entries) ordered (λ s. member-lookup nat_cmp_total map_of.entries ordered s ∙ ap is_some (shared s) ∙ some_told (in_shard shards s changes))
