-- The items by way of their places: what is found, what a change leaves, and that all of it ascends.
use Rattle.std.proofs.Common.{◌≡◌, ◌≢◌, ℕ, true, false, eqb, cond, IsTrue, List, [], ◌∷◌, refl, sym, ap, subst, ◌∙◌, Option, None, Some, inl, inr, arith}
use Rattle.std.specs.Cmp.{nat_cmp_total}
use Rattle.std.specs.FinMap as map
use Rattle.std.specs.FinMap.Entries.{find}
use Rattle.std.specs.List.{AllByRecursion}
use Rattle.std.specs.List.Sorted.{IsStrictlySortedBy}
use Rattle.std.specs.Map.{keys_of}
use Rattle.std.specs.Option.{is_some, option_and_then, unwrap_or}
use Rattle.std.specs.Ordering.{nat_cmp, eq_by_cmp}
use Rattle.std.specs.declared.cmp.Ordering.TheVariants.{Less}
use Rattle.std.proofs.lemmas.Bool.{cases_eq, false≢true, eqb-true}
use Rattle.std.proofs.lemmas.Bool.Decides.{nat_tests}
use Rattle.std.proofs.lemmas.Map.Keys.{sorted_head, sorted_tail}
use Rattle.id_map.specs.storage.Items.{with_found, items_at, all_items, IsPlaced}
use Rattle.id_map.proofs.OneChange.{get-put, get-taken, put_in, remove-absent, taken_out}
use Rattle.shared_lemmas.proofs.FiniteMaps.{keys_rise}
use Rattle.shared_lemmas.proofs.OrderedMaps.{entries-seen, find-below}
use Rattle.shared_lemmas.proofs.Orderings.{same_item}
use Rattle.slab.specs.Slab.{Slab, get, Updates}

itself : (k : ℕ) → eqb k k ≡ true
itself k = grind (arith, nat_tests)

differs : (q k : ℕ) → q ≢ k → eqb q k ≡ false
differs q k other = grind (arith, nat_tests)

same_some : (p q : ℕ) → Some p ≡ Some q → p ≡ q
same_some p q e = ap (λ o. unwrap_or o p) e

module _ {T : Type 0} (items : Slab T) where
  find-items_at : (q : ℕ) (places : List (ℕ × ℕ)) → IsStrictlySortedBy nat_cmp (keys_of places) → find nat_cmp q (items_at items places) ≡ option_and_then (get items) (find nat_cmp q places)
  find-items_at q [] sorted = refl
  find-items_at q (e ∷ places) sorted =
      let rest = find-items_at q places (sorted_tail nat_cmp _ _ sorted) in
      let absent : q ≡ e.0 → find nat_cmp q places ≡ None = λ is. find-below nat_cmp q places (subst (λ v. AllByRecursion (λ w. nat_cmp v w ≡ Less) (keys_of places)) (sym is) (sorted_head nat_cmp _ _ sorted)) in
      elim (get items e.1) as (λ o. get items e.1 ≡ o → find nat_cmp q (with_found e.0 o (items_at items places)) ≡ option_and_then (get items) (cond (eq_by_cmp nat_cmp q e.0) (Some e.1) (find nat_cmp q places))) [
        | None ↦ λ is. rest ∙ elim (eq_by_cmp nat_cmp q e.0) as (λ b. eq_by_cmp nat_cmp q e.0 ≡ b → option_and_then (get items) (find nat_cmp q places) ≡ option_and_then (get items) (cond b (Some e.1) (find nat_cmp q places))) [
          | true ↦ λ tied. ap (option_and_then (get items)) (absent (same_item map.nat_cmp-IsAntisymmetric q e.0 tied)) ∙ sym is
          | false ↦ λ _. refl
        ] refl
        | Some item ↦ λ is. elim (eq_by_cmp nat_cmp q e.0) as (λ b. cond b (Some item) (find nat_cmp q (items_at items places)) ≡ option_and_then (get items) (cond b (Some e.1) (find nat_cmp q places))) [
          | true ↦ sym is
          | false ↦ rest
        ]
      ] refl

  -- an id has the item at its place
  pub get-all_items : (places : map.FinMap nat_cmp ℕ) (q : ℕ) → map.get (all_items items places) q ≡ option_and_then (get items) (map.get places q)
  get-all_items places q =
      map.get-from_entries nat_cmp_total _ q
      ∙ find-items_at q (map.entries places) (keys_rise places)
      ∙ ap (option_and_then (get items)) (sym (map.get-entries places q))

  keys_after : (k : ℕ) (places : List (ℕ × ℕ)) → AllByRecursion (λ q. nat_cmp k q ≡ Less) (keys_of places) → AllByRecursion (λ q. nat_cmp k q ≡ Less) (keys_of (items_at items places))
  keys_after k [] after = tt
  keys_after k (e ∷ places) after =
      elim (get items e.1) as (λ o. AllByRecursion (λ q. nat_cmp k q ≡ Less) (keys_of (with_found e.0 o (items_at items places)))) [
        | None ↦ keys_after k places after.1
        | Some item ↦ (after.0, keys_after k places after.1)
      ]

  keys_ascend : (places : List (ℕ × ℕ)) → IsStrictlySortedBy nat_cmp (keys_of places) → IsStrictlySortedBy nat_cmp (keys_of (items_at items places))
  unfolding IsStrictlySortedBy
  keys_ascend [] sorted = tt
  keys_ascend (e ∷ places) sorted =
      elim (get items e.1) as (λ o. IsStrictlySortedBy nat_cmp (keys_of (with_found e.0 o (items_at items places)))) [
        | None ↦ keys_ascend places sorted.1
        | Some item ↦ (keys_after e.0 places sorted.0, keys_ascend places sorted.1)
      ]

  pub entries-all_items : (places : map.FinMap nat_cmp ℕ) → map.entries (all_items items places) ≡ items_at items (map.entries places)
  entries-all_items places = entries-seen nat_cmp_total _ (keys_ascend (map.entries places) (keys_rise places))

pub nothing : {T : Type 0} (items : Slab T) → all_items items map.empty ≡ map.empty
nothing items =
    map.same_map nat_cmp_total map.nat_cmp-IsAntisymmetric _ _ (λ q.
    get-all_items items map.empty q ∙ ap (option_and_then (get items)) (map.get-empty nat_cmp q) ∙ sym (map.get-empty nat_cmp q))

module _ {T : Type 0} (items left : Slab T) (place : ℕ) (slot : Option T) (updates : Updates items left place slot) where
  -- what is found at another place stays
  kept : (found : Option ℕ) → found ≢ Some place → option_and_then (get left) found ≡ option_and_then (get items) found
  kept None apart = refl
  kept (Some other) apart = updates.others other (λ e. apart (ap Some e))

  -- Where other ids keep their places, and none of them has this one, only this id has another item.
  all_items-changed : (before after : map.FinMap nat_cmp ℕ) (id : ℕ) → option_and_then (get left) (map.get after id) ≡ slot → ((q : ℕ) → q ≢ id → (map.get after q ≡ map.get before q) × (map.get before q ≢ Some place)) →
      (q : ℕ) → map.get (all_items left after) q ≡ cond (eqb q id) slot (map.get (all_items items before) q)
  all_items-changed before after id here others q =
      get-all_items left after q
      ∙ elim (eqb q id) as (λ b. eqb q id ≡ b → option_and_then (get left) (map.get after q) ≡ cond b slot (map.get (all_items items before) q)) [
        | true ↦ λ e. ap (λ k. option_and_then (get left) (map.get after k)) (eqb-true q id e) ∙ here
        | false ↦ λ e.
            let other = others q (grind (arith, nat_tests)) in
            ap (option_and_then (get left)) other.0 ∙ kept (map.get before q) other.1 ∙ sym (get-all_items items before q)
      ] refl

module _ {T : Type 0} (items left : Slab T) (places : map.FinMap nat_cmp ℕ) (placed : IsPlaced items places) (id place : ℕ) where
  -- where an id has a place, no other id has it
  others_apart : map.get places id ≡ Some place → (q : ℕ) → q ≢ id → map.get places q ≢ Some place
  others_apart at q other has = other (placed.apart q id place has at)

  -- a place that has no item is that of no id
  vacant_apart : get items place ≡ None → (q : ℕ) → map.get places q ≢ Some place
  vacant_apart vacant q has = absurd (false≢true (ap is_some (sym vacant) ∙ placed.occupied q place has))

  -- an item is written over
  pub all_items-written : (item : T) → map.get places id ≡ Some place → Updates items left place (Some item) → all_items left places ≡ map.insert (all_items items places) id item
  all_items-written item at updates =
      put_in _ id _ item (all_items-changed items left place (Some item) updates places places id (ap (option_and_then (get left)) at ∙ updates.changed)
      (λ q other. (refl, others_apart at q other)))

  pub IsPlaced-written : (item : T) → Updates items left place (Some item) → IsPlaced left places
  IsPlaced-written item updates = record {
    occupied = λ q other has. elim (cases_eq other place) [
      | inl same ↦ ap is_some (ap (get left) same ∙ updates.changed)
      | inr apart ↦ ap is_some (updates.others other apart) ∙ placed.occupied q other has
    ];
    apart = placed.apart;
  }

  -- an item is added at a vacant place
  pub all_items-added : (item : T) → get items place ≡ None → Updates items left place (Some item) → all_items left (map.insert places id place) ≡ map.insert (all_items items places) id item
  all_items-added item vacant updates =
      put_in _ id _ item (all_items-changed items left place (Some item) updates places (map.insert places id place) id
      (ap (option_and_then (get left)) (get-put places id place id ∙ ap (λ b. cond b (Some place) (map.get places id)) (itself id)) ∙ updates.changed)
      (λ q other. (get-put places id place q ∙ ap (λ b. cond b (Some place) (map.get places q)) (differs q id other), vacant_apart vacant q)))

  pub IsPlaced-added : (item : T) → get items place ≡ None → Updates items left place (Some item) → IsPlaced left (map.insert places id place)
  IsPlaced-added item vacant updates = record {
    occupied = λ q other has. elim (eqb q id) as (λ b. cond b (Some place) (map.get places q) ≡ Some other → IsTrue (is_some (get left other))) [
      | true ↦ λ is. ap is_some (ap (get left) (sym (same_some place other is)) ∙ updates.changed)
      | false ↦ λ is. ap is_some (updates.others other (λ e. vacant_apart vacant q (is ∙ ap Some e))) ∙ placed.occupied q other is
    ] (sym (get-put places id place q) ∙ has);
    apart = λ x y other has also. elim (cases_eq x id) [
      | inl first ↦ elim (cases_eq y id) [
        | inl second ↦ first ∙ sym second
        | inr second ↦ absurd (vacant_apart vacant y (sym (put_other y second) ∙ also ∙ ap Some (sym (same_some place other (sym (put_here x first) ∙ has)))))
      ]
      | inr first ↦ elim (cases_eq y id) [
        | inl second ↦ absurd (vacant_apart vacant x (sym (put_other x first) ∙ has ∙ ap Some (sym (same_some place other (sym (put_here y second) ∙ also)))))
        | inr second ↦ placed.apart x y other (sym (put_other x first) ∙ has) (sym (put_other y second) ∙ also)
      ]
    ];
  }
    where
      put_other : (q : ℕ) → q ≢ id → map.get (map.insert places id place) q ≡ map.get places q
      put_other q other = get-put places id place q ∙ ap (λ b. cond b (Some place) (map.get places q)) (differs q id other)

      put_here : (q : ℕ) → q ≡ id → map.get (map.insert places id place) q ≡ Some place
      put_here q same = get-put places id place q ∙ ap (λ b. cond b (Some place) (map.get places q)) (ap (λ k. eqb k id) same ∙ itself id)

  -- an item is taken out with its place
  pub all_items-taken : map.get places id ≡ Some place → Updates items left place None → all_items left (map.remove places id) ≡ map.remove (all_items items places) id
  all_items-taken at updates =
      taken_out _ id _ (all_items-changed items left place None updates places (map.remove places id) id
      (ap (option_and_then (get left)) (get-taken places id id ∙ ap (λ b. cond b None (map.get places id)) (itself id)))
      (λ q other. (get-taken places id q ∙ ap (λ b. cond b None (map.get places q)) (differs q id other), others_apart at q other)))

  pub IsPlaced-taken : map.get places id ≡ Some place → Updates items left place None → IsPlaced left (map.remove places id)
  IsPlaced-taken at updates = record {
    occupied = λ q other has.
        let was = stayed q other (sym (get-taken places id q) ∙ has) in
        ap is_some (updates.others other (λ e. was.0 (placed.apart q id place (was.1 ∙ ap Some e) at))) ∙ placed.occupied q other was.1;
    apart = λ x y other has also. placed.apart x y other (stayed x other (sym (get-taken places id x) ∙ has)).1 (stayed y other (sym (get-taken places id y) ∙ also)).1;
  }
    where
      stayed : (q other : ℕ) → cond (eqb q id) None (map.get places q) ≡ Some other → (q ≢ id) × (map.get places q ≡ Some other)
      stayed q other = elim (eqb q id) as (λ b. eqb q id ≡ b → cond b None (map.get places q) ≡ Some other → (q ≢ id) × (map.get places q ≡ Some other)) [
        | true ↦ λ _ has. absurd (false≢true (ap is_some has))
        | false ↦ λ e has. (grind (arith, nat_tests), has)
      ] refl

pub IsPlaced-nothing : {T : Type 0} (items : Slab T) → IsPlaced items map.empty
IsPlaced-nothing items = record {
  occupied = λ q place has. absurd (false≢true (ap is_some (sym (map.get-empty nat_cmp q) ∙ has)));
  apart = λ x y place has _. absurd (false≢true (ap is_some (sym (map.get-empty nat_cmp x) ∙ has)));
}

-- an id that has no place has no item, and to take it out changes nothing
pub all_items-absent : {T : Type 0} (items : Slab T) (places : map.FinMap nat_cmp ℕ) (id : ℕ) → map.get places id ≡ None → all_items items (map.remove places id) ≡ map.remove (all_items items places) id
all_items-absent items places id none =
    ap (all_items items) (remove-absent places id none)
    ∙ sym (remove-absent (all_items items places) id (get-all_items items places id ∙ ap (option_and_then (get items)) none))

-- room that is made first changes no item
pub Updates-after : {T : Type 0} (items roomy left : Slab T) (place : ℕ) (slot : Option T) → roomy ≡ record items { capacity = roomy.capacity } → {at : ℕ} → at ≡ place → Updates roomy left at slot → Updates items left place slot
Updates-after items roomy left place slot same at_is updates = record {
  changed = ap (get left) (sym at_is) ∙ updates.changed;
  others = λ other apart. updates.others other (λ e. apart (e ∙ at_is)) ∙ ap (λ s. get s other) same;
}
