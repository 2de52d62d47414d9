-- Changes that share a timestamp, one for each of some places.
use Rattle.std.proofs.Common.{◌≡◌, ◌⊎◌, ⊎_elim, ℕ, true, false, cond, List, [], ◌∷◌, map as mapped, Some, unwrap_or, refl, sym, ap, subst, ◌∙◌, inl, inr}
use Rattle.std.specs.FinMap as map
use Rattle.std.specs.List.{AllByRecursion}
use Rattle.std.specs.List.Sorted.{IsStrictlySortedBy}
use Rattle.std.specs.Cmp.{tied_itself}
use Rattle.std.specs.Ordering.{eq_by_cmp, is_eq}
use Rattle.std.specs.declared.cmp.Ordering.TheVariants.{Less}
use Rattle.shared_lemmas.specs.meaning.Membership.{IsIn}
use Rattle.shared_lemmas.proofs.Membership.{IsIn-map, all-at}
use Rattle.shared_lemmas.proofs.Orderings.{Greater-turned, same_item}
use Rattle.update_rules.specs.declared.changes.Change.{Change}
use Rattle.update_rules.specs.meaning.Places.{Place, place_cmp}
use Rattle.update_rules.proofs.Places.{place_cmp_total, place_cmp-IsAntisymmetric}
use Rattle.shard_state.specs.calls.CellChanges.{noted_all, noted_at}
use Rattle.shard_state.specs.meaning.Shards.{Entries, place_of, version_of, versions_of, with_changes}
use Rattle.shard_state.specs.meaning.Versions.{Versions, no_versions, with_version}

-- a place below all of them has none of the changes
noted_above : (at : ℕ) (changes : List Change) (p : Place) (x : Versions) → AllByRecursion (λ q. place_cmp p q ≡ Less) (mapped place_of changes) → noted_all at changes p x ≡ x
noted_above at [] p x below = refl
noted_above at (change ∷ changes) p x below =
    ap (λ r. noted_all at changes p (cond (is_eq r) (with_version x (version_of at change)) x)) below.0 ∙ noted_above at changes p x below.1

-- one of the changes is noted at p, and no other
pub record IsNotedOnce (at : ℕ) (changes : List Change) (p : Place) (x : Versions) : Type 0 where
  pub change : Change
  pub among : IsIn change changes
  pub place : place_of change ≡ p
  pub noted : noted_all at changes p x ≡ with_version x (version_of at change)

module _ (at : ℕ) where
  noted_first : (change : Change) (changes : List Change) (p : Place) (x : Versions) → IsStrictlySortedBy place_cmp (mapped place_of (change ∷ changes)) → place_of change ≡ p →
      noted_all at (change ∷ changes) p x ≡ with_version x (version_of at change)
  unfolding IsStrictlySortedBy
  noted_first change changes p x ascending same =
      ap (λ r. noted_all at changes p (cond (is_eq r) (with_version x (version_of at change)) x)) (ap (place_cmp p) same ∙ tied_itself place_cmp_total p)
      ∙ noted_above at changes p (with_version x (version_of at change)) (subst (λ q. AllByRecursion (λ r. place_cmp q r ≡ Less) (mapped place_of changes)) same ascending.0)

  noted_later : (change : Change) (changes : List Change) (p : Place) (x y : Versions) → eq_by_cmp place_cmp p (place_of change) ≡ false → noted_all at changes p x ≡ y → noted_all at (change ∷ changes) p x ≡ y
  noted_later change changes p x y apart later = ap (λ b. noted_all at changes p (cond b (with_version x (version_of at change)) x)) apart ∙ later

  -- at each place nothing is noted, or one of the changes
  pub noted_cases : (changes : List Change) → IsStrictlySortedBy place_cmp (mapped place_of changes) → (p : Place) (x : Versions) → (noted_all at changes p x ≡ x) ⊎ IsNotedOnce at changes p x
  unfolding IsStrictlySortedBy
  noted_cases [] ascending p x = inl refl
  noted_cases (change ∷ changes) ascending p x =
      elim (eq_by_cmp place_cmp p (place_of change)) as (λ b. eq_by_cmp place_cmp p (place_of change) ≡ b → (noted_all at (change ∷ changes) p x ≡ x) ⊎ IsNotedOnce at (change ∷ changes) p x) [
        | true ↦ λ same.
            let here = sym (same_item place_cmp-IsAntisymmetric p (place_of change) same) in
            inr (record { change = change; among = inl refl; place = here; noted = noted_first change changes p x ascending here })
        | false ↦ λ apart.
            ⊎_elim (λ none. inl (noted_later change changes p x x apart none))
            (λ once. inr (record { change = once.change; among = inr once.among; place = once.place; noted = noted_later change changes p x _ apart once.noted }))
            (noted_cases changes ascending.1 p x)
      ] refl

  -- the change at p is noted
  pub noted_all-found : (changes : List Change) → IsStrictlySortedBy place_cmp (mapped place_of changes) → (change : Change) → IsIn change changes → (p : Place) (x : Versions) → place_of change ≡ p →
      noted_all at changes p x ≡ with_version x (version_of at change)
  unfolding IsStrictlySortedBy
  noted_all-found [] ascending change among p x same = absurd among
  noted_all-found (first ∷ changes) ascending change (inl here) p x same =
      subst (λ c. noted_all at (first ∷ changes) p x ≡ with_version x (version_of at c)) (sym here)
      (noted_first first changes p x ascending (ap place_of (sym here) ∙ same))
  noted_all-found (first ∷ changes) ascending change (inr later) p x same =
      let below : place_cmp (place_of first) (place_of change) ≡ Less = all-at (λ q. place_cmp (place_of first) q ≡ Less) (place_of change) (mapped place_of changes) ascending.0 (IsIn-map place_of change changes later) in
      let apart : eq_by_cmp place_cmp p (place_of first) ≡ false = ap (λ q. is_eq (place_cmp q (place_of first))) (sym same) ∙ ap is_eq (Greater-turned place_cmp_total (place_of first) (place_of change) below) in
      noted_later first changes p x _ apart (noted_all-found changes ascending.1 change later p x same)

-- the versions after one more is put in, and after some changes
versions_of-inserted : (entries : Entries) (at : Place) (x : Versions) (p : Place) → versions_of (map.insert entries at x) p ≡ cond (eq_by_cmp place_cmp p at) x (versions_of entries p)
versions_of-inserted entries at x p =
    ap (λ o. unwrap_or o no_versions) (map.get-insert place_cmp_total entries at x p)
    ∙ elim (eq_by_cmp place_cmp p at) as (λ b. unwrap_or (cond b (Some x) (map.get entries p)) no_versions ≡ cond b x (versions_of entries p)) [ true ↦ refl | false ↦ refl ]

inserted-noted : (entries : Entries) (at : ℕ) (change : Change) (p : Place) →
    versions_of (map.insert entries (place_of change) (with_version (versions_of entries (place_of change)) (version_of at change))) p ≡ noted_at (place_of change) (version_of at change) p (versions_of entries p)
inserted-noted entries at change p =
    versions_of-inserted entries (place_of change) (with_version (versions_of entries (place_of change)) (version_of at change)) p
    ∙ elim (eq_by_cmp place_cmp p (place_of change)) as (λ b. eq_by_cmp place_cmp p (place_of change) ≡ b →
    cond b (with_version (versions_of entries (place_of change)) (version_of at change)) (versions_of entries p) ≡ cond b (with_version (versions_of entries p) (version_of at change)) (versions_of entries p)) [
      | true ↦ λ same. ap (λ q. with_version (versions_of entries q) (version_of at change)) (sym (same_item place_cmp-IsAntisymmetric p (place_of change) same))
      | false ↦ λ _. refl
    ] refl

pub versions_of-with_changes : (at : ℕ) (changes : List Change) (entries : Entries) (p : Place) → versions_of (with_changes at entries changes) p ≡ noted_all at changes p (versions_of entries p)
versions_of-with_changes at [] entries p = refl
versions_of-with_changes at (change ∷ changes) entries p =
    versions_of-with_changes at changes (map.insert entries (place_of change) (with_version (versions_of entries (place_of change)) (version_of at change))) p
    ∙ ap (noted_all at changes p) (inserted-noted entries at change p)
