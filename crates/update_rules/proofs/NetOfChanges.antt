-- The net change that the changes between two simple graphs come to.
use Rattle.std.proofs.Common.{◌≡◌, ◌≢◌, ◌<◌, ◌≤◌, ℕ, Bool, true, false, not, ◌&&◌, ◌||◌, if◌then◌else◌, eqb, nat_le, IsTrue, List, [], ◌∷◌, map, length, get_or, min, max, Option, None, Some, Result, Ok, Err, refl, sym, ap, subst, ◌∙◌, inl, inr, ⊎_elim, arith, eq-eqb}
use Rattle.std.specs.Cmp.{nat_cmp_total, ranked}
use Rattle.std.specs.FinMap as finite
use Rattle.std.specs.List.{AllByRecursion, cons_option, filter_map, list_any}
use Rattle.std.specs.List.Sorted.{IsStrictlySortedBy, IsBinarySearchResult}
use Rattle.std.specs.Option.{option_eq}
use Rattle.std.specs.Ordering.{nat_cmp, ordering_then}
use Rattle.std.specs.Result.{is_ok}
use Rattle.std.specs.declared.cmp.Ordering.{Ordering}
use Rattle.std.specs.declared.cmp.Ordering.TheVariants.{Less, Equal, Greater}
use Rattle.std.proofs.lemmas.Bool.{eqb-true, cases_lt, and_parts, and_from, or_parts, or_from, not-true, false_from_ne_true}
use Rattle.std.proofs.lemmas.Bool.Decides.{nat_tests}
use Rattle.std.proofs.lemmas.List.Sorted.{searched}
use Rattle.std.proofs.lemmas.Map.Keys.{Less-from_sorted}
use Rattle.graph_types.specs.meaning.Graph.{Graph, label_between, pair_cmp, edge_between}
use Rattle.graph_types.specs.meaning.Orders.{pair_cmp_total}
use Rattle.graph_types.specs.meaning.Simple.{IsSimple}
use Rattle.graph_types.proofs.Graph.{label-at, pair_cmp-IsAntisymmetric}
use Rattle.graph_types.proofs.Listing.{same_list}
use Rattle.graph_types.proofs.Rows.{nat-test}
use Rattle.mining_model.specs.meaning.NetChange.{changed_vertices, changed_edges, edge_differs, ends_are_same, vertex_differs}
use Rattle.mining_model.proofs.Differences.{IsIn-lists, Lists-changed_edges, Lists-changed_vertices}
use Rattle.shared_lemmas.specs.meaning.Membership.{IsIn}
use Rattle.shared_lemmas.proofs.Membership.{IsIn-get_or, IsIn-place, list_any_at, list_any_place}
use Rattle.update_rules.specs.calls.Telling.{edge_told, is_among, vertex_told}
use Rattle.update_rules.specs.meaning.Parts.{change_to, changed_places, changes_between}
use Rattle.update_rules.specs.meaning.Places.{Place, place_cmp, entry_at, entry_differs}
use Rattle.update_rules.proofs.Differing.{Lists-changed_places, some_side}
use Rattle.update_rules.proofs.Lookups.{Lists-from_in}
use Rattle.update_rules.proofs.Places.{place_cmp_total, place_cmp-IsAntisymmetric}

-- a search among ascending numbers

rises : (xs : List ℕ) → IsStrictlySortedBy nat_cmp xs → (i j : ℕ) → i ≤ j → j < length xs → get_or xs i 0 ≤ get_or xs j 0
rises xs sorted i j below within =
    ⊎_elim
    (λ less. let lower : get_or xs i 0 < get_or xs j 0 = ranked _ _ Less (sym (Less-from_sorted nat_cmp xs i j 0 sorted less within)) in omega (arith, lower))
    (λ no. let same : i ≡ j = omega (arith, below, no) in subst (λ k. get_or xs i 0 ≤ get_or xs k 0) same (omega arith))
    (cases_lt i j)

pub found-is : (xs : List ℕ) (x : ℕ) (r : Result ℕ ℕ) → IsStrictlySortedBy nat_cmp xs → IsBinarySearchResult (λ y. nat_cmp y x) xs r → is_ok r ≡ list_any (eqb x) xs
found-is xs x (Ok i) sorted found =
    let there = searched xs x (Ok i) found (rises xs sorted) in
    sym (list_any_at (eqb x) (get_or xs i 0) xs (IsIn-get_or xs i 0 there.0) (eq-eqb x (get_or xs i 0) (sym there.1)))
found-is xs x (Err i) sorted found =
    let absent = searched xs x (Err i) found (rises xs sorted) in
    sym (false_from_ne_true (list_any (eqb x) xs) (λ t.
    let place = list_any_place (eqb x) xs t in
    let at = IsIn-place place.0 xs place.1 in
    let is : get_or xs at.0 0 ≡ x = at.2 0 ∙ sym (eqb-true x place.0 place.2) in
    ⊎_elim
    (λ before. let low = absent.1 at.0 before in omega (arith, is, low))
    (λ after. let high = absent.2 at.0 after at.1 in omega (arith, is, high))
    (cases_lt at.0 i)))

-- what is told of the items of an ascending list, where it tells the item
module _ {A B : Type 0} (R : A → A → Ordering) (S : B → B → Ordering) (f : A → Option B) (g : B → A)
    (back : (x : A) (y : B) → f x ≡ Some y → x ≡ g y) (rise : (y z : B) → R (g y) (g z) ≡ Less → S y z ≡ Less) where
  told_above : (x : A) (y : B) → f x ≡ Some y → (xs : List A) → AllByRecursion (λ u. R x u ≡ Less) xs → AllByRecursion (λ z. S y z ≡ Less) (filter_map f xs)
  told_above x y is [] below = tt
  told_above x y is (u ∷ xs) below =
      let rest = told_above x y is xs below.1 in
      elim (f u) as (λ o. f u ≡ o → AllByRecursion (λ z. S y z ≡ Less) (cons_option o (filter_map f xs))) [
        | None ↦ λ _. rest
        | Some z ↦ λ told. (rise y z ((λ i. R (sym (back x y is) i) (sym (back u z told) i)) ∙ below.0), rest)
      ] refl

  told_rise : (xs : List A) → IsStrictlySortedBy R xs → IsStrictlySortedBy S (filter_map f xs)
  unfolding IsStrictlySortedBy
  told_rise [] s = tt
  told_rise (x ∷ xs) s =
      let rest = told_rise xs s.1 in
      elim (f x) as (λ o. f x ≡ o → IsStrictlySortedBy S (cons_option o (filter_map f xs))) [
        | None ↦ λ _. rest
        | Some y ↦ λ told. (told_above x y told xs s.0, rest)
      ] refl

  told_of : (y : B) (xs : List A) → IsIn y (filter_map f xs) → IsIn (g y) xs × (f (g y) ≡ Some y)
  told_of y [] h = absurd h
  told_of y (x ∷ xs) h =
      elim (f x) as (λ o. f x ≡ o → IsIn y (cons_option o (filter_map f xs)) → IsIn (g y) (x ∷ xs) × (f (g y) ≡ Some y)) [
        | None ↦ λ _ i. let r = told_of y xs i in (inr r.0, r.1)
        | Some z ↦ λ told. ⊎_elim
            (λ e. let here : x ≡ g y = back x z told ∙ ap g (sym e) in (inl (sym here), ap f (sym here) ∙ told ∙ ap Some (sym e)))
            (λ i. let r = told_of y xs i in (inr r.0, r.1))
      ] refl h

  is_told : (x : A) (y : B) (xs : List A) → IsIn x xs → f x ≡ Some y → IsIn y (filter_map f xs)
  is_told x y [] h is = absurd h
  is_told x y (u ∷ xs) (inl e) is = subst (λ o. IsIn y (cons_option o (filter_map f xs))) (sym is ∙ ap f e) (inl refl)
  is_told x y (u ∷ xs) (inr h) is =
      let rest = is_told x y xs h is in
      elim (f u) as (λ o. IsIn y (cons_option o (filter_map f xs))) [ None ↦ rest | Some z ↦ inr rest ]

filter_map-map : {A B C : Type 0} (t : B → Option C) (h : A → B) (xs : List A) → filter_map t (map h xs) ≡ filter_map (λ x. t (h x)) xs
filter_map-map t h [] = refl
filter_map-map t h (x ∷ xs) = ap (cons_option (t (h x))) (filter_map-map t h xs)

labels_back : (now : Option ℕ) (v : ℕ) (to : Option ℕ) (y : ℕ) → vertex_told (change_to (v, to) now) ≡ Some y → ◌≡◌ {A = Place} (v, to) (y, None)
labels_back now v None y e = λ i. (some_same e i, None)
  where
    some_same : Some v ≡ Some y → v ≡ y
    some_same told = cc
labels_back now v (Some to) y e = cc

edges_back : (vertices : List ℕ) (now : Option ℕ) (v : ℕ) (to : Option ℕ) (y : ℕ × ℕ) → edge_told vertices (change_to (v, to) now) ≡ Some y → ◌≡◌ {A = Place} (v, to) (y.0, Some y.1)
edges_back vertices now v None y e = cc
edges_back vertices now v (Some to) y e =
    elim (nat_le to v || is_among vertices v || is_among vertices to) as (λ b. (if b then None else Some (v, to)) ≡ Some y → ◌≡◌ {A = Place} (v, Some to) (y.0, Some y.1)) [
      | true ↦ λ t. cc
      | false ↦ λ t. λ i. ((pair_same t i).0, Some (pair_same t i).1)
    ] e
  where
    pair_same : ◌≡◌ {A = Option (ℕ × ℕ)} (Some (v, to)) (Some y) → ◌≡◌ {A = ℕ × ℕ} (v, to) y
    pair_same told = cc

edges_rise : (e f : ℕ × ℕ) → place_cmp (e.0, Some e.1) (f.0, Some f.1) ≡ Less → pair_cmp e f ≡ Less
edges_rise e f less = less

then_Less : (r : Ordering) → ordering_then r Equal ≡ Less → r ≡ Less
then_Less Less e = refl
then_Less Equal e = cc
then_Less Greater e = cc

kept_from : {X : Type 0} (b : Bool) (x y : X) → ◌≡◌ {A = Option X} (if b then None else Some x) (Some y) → b ≡ false
kept_from true x y e = cc
kept_from false x y e = refl

in_order : (e : ℕ × ℕ) → e.0 < e.1 → e ≡ edge_between e.0 e.1
in_order e below = let low : e.0 ≡ min e.0 e.1 = omega arith in let high : e.1 ≡ max e.0 e.1 = omega arith in λ i. (low i, high i)

label_of : (g : Graph) (e : ℕ × ℕ) → e.0 < e.1 → label_between g e.0 e.1 ≡ finite.get g.edges e
label_of g e below = let apart : e.0 ≢ e.1 = omega arith in sym (label-at g e.0 e.1 e apart (in_order e below))

module _ (before after : Graph) (simple_before : IsSimple before) (simple_after : IsSimple after) where
  abbrev places : List Place
  places = changed_places before after

  listed : (p : Place) → IsTrue (entry_differs before after p) → IsIn p places
  listed p t = (IsIn-lists place_cmp_total place_cmp-IsAntisymmetric (entry_differs before after) places (Lists-changed_places before after simple_before simple_after) p).1 t

  differing : (p : Place) → IsIn p places → IsTrue (entry_differs before after p)
  differing p h = (IsIn-lists place_cmp_total place_cmp-IsAntisymmetric (entry_differs before after) places (Lists-changed_places before after simple_before simple_after) p).0 h

  abbrev vertex_at : Place → Option ℕ
  vertex_at p = vertex_told (change_to p (entry_at after p))

  among-is : (v : ℕ) → is_among (changed_vertices before after) v ≡ vertex_differs before after v
  among-is v = (λ i. list_any (λ w. sym (nat-test v w) i) (changed_vertices before after)) ∙ (Lists-changed_vertices before after).members v

  pub vertices-told : filter_map vertex_told (changes_between before after) ≡ changed_vertices before after
  vertices-told =
      let back = λ (p : Place) (y : ℕ) (e : vertex_at p ≡ Some y). labels_back (entry_at after p) p.0 p.1 y e in
      let rise = λ (y z : ℕ) (less : place_cmp (y, None) (z, None) ≡ Less). then_Less (nat_cmp y z) less in
      let label = λ (v : ℕ). let p : Place = (v, None) in p in
      filter_map-map vertex_told (λ p. change_to p (entry_at after p)) places
      ∙ same_list nat_cmp_total finite.nat_cmp-IsAntisymmetric (vertex_differs before after) _ _
      (Lists-from_in nat_cmp_total finite.nat_cmp-IsAntisymmetric (vertex_differs before after) (filter_map vertex_at places)
      (told_rise place_cmp nat_cmp vertex_at label back rise places (Lists-changed_places before after simple_before simple_after).ascending)
      (λ v h. differing (v, None) (told_of place_cmp nat_cmp vertex_at label back rise v places h).0)
      (λ v t. is_told place_cmp nat_cmp vertex_at label back rise (v, None) v places (listed (v, None) t) refl))
      (Lists-changed_vertices before after)

  abbrev edge_at : Place → Option (ℕ × ℕ)
  edge_at p = edge_told (changed_vertices before after) (change_to p (entry_at after p))

  abbrev is_passed_over : ℕ × ℕ → Bool
  is_passed_over e = nat_le e.1 e.0 || is_among (changed_vertices before after) e.0 || is_among (changed_vertices before after) e.1

  differs-is : (e : ℕ × ℕ) → e.0 < e.1 → entry_differs before after (e.0, Some e.1) ≡ edge_differs before after e
  differs-is e below = λ i. not (option_eq eqb (label_of before e below i) (label_of after e below i))

  edge_below : (e : ℕ × ℕ) → IsTrue (edge_differs before after e) → e.0 < e.1
  edge_below e d = ⊎_elim (simple_before.lower_first e) (simple_after.lower_first e) (some_side _ _ d)

  end_is_same : (v : ℕ) → is_among (changed_vertices before after) v ≡ false → not (vertex_differs before after v) ≡ true
  end_is_same v absent = ap not (sym (among-is v) ∙ absent)

  told_differs : (e : ℕ × ℕ) → IsTrue (entry_differs before after (e.0, Some e.1)) → is_passed_over e ≡ false → IsTrue (edge_differs before after e && ends_are_same before after e)
  told_differs e d kept =
      let last = or_parts (nat_le e.1 e.0 || is_among (changed_vertices before after) e.0) (is_among (changed_vertices before after) e.1) kept in
      let first = or_parts (nat_le e.1 e.0) (is_among (changed_vertices before after) e.0) last.0 in
      let low : nat_le e.1 e.0 ≡ false = first.0 in
      let below : e.0 < e.1 = grind (arith, nat_tests) in
      and_from (edge_differs before after e) (ends_are_same before after e) (sym (differs-is e below) ∙ d)
      (and_from _ _ (end_is_same e.0 first.1) (end_is_same e.1 last.1))

  kept_over : (e : ℕ × ℕ) → IsTrue (edge_differs before after e && ends_are_same before after e) → is_passed_over e ≡ false
  kept_over e t =
      let parts = and_parts (edge_differs before after e) (ends_are_same before after e) t in
      let ends = and_parts (not (vertex_differs before after e.0)) (not (vertex_differs before after e.1)) parts.1 in
      let below : e.0 < e.1 = edge_below e parts.0 in
      let low : nat_le e.1 e.0 ≡ false = grind (arith, nat_tests) in
      or_from (nat_le e.1 e.0 || is_among (changed_vertices before after) e.0) (is_among (changed_vertices before after) e.1)
      (or_from (nat_le e.1 e.0) (is_among (changed_vertices before after) e.0) low (among-is e.0 ∙ not-true _ ends.0))
      (among-is e.1 ∙ not-true _ ends.1)

  pub edges-told : filter_map (edge_told (changed_vertices before after)) (changes_between before after) ≡ changed_edges before after
  edges-told =
      let vertices = changed_vertices before after in
      let test : ℕ × ℕ → Bool = λ e. edge_differs before after e && ends_are_same before after e in
      let back = λ (p : Place) (y : ℕ × ℕ) (e : edge_at p ≡ Some y). edges_back vertices (entry_at after p) p.0 p.1 y e in
      let near = λ (e : ℕ × ℕ). let p : Place = (e.0, Some e.1) in p in
      filter_map-map (edge_told vertices) (λ p. change_to p (entry_at after p)) places
      ∙ same_list pair_cmp_total pair_cmp-IsAntisymmetric test _ _
      (Lists-from_in pair_cmp_total pair_cmp-IsAntisymmetric test (filter_map edge_at places)
      (told_rise place_cmp pair_cmp edge_at near back edges_rise places (Lists-changed_places before after simple_before simple_after).ascending)
      (λ e h. let told = told_of place_cmp pair_cmp edge_at near back edges_rise e places h in
      told_differs e (differing (e.0, Some e.1) told.0) (kept_from (is_passed_over e) e e told.1))
      (λ e t. let parts = and_parts (edge_differs before after e) (ends_are_same before after e) t in
      is_told place_cmp pair_cmp edge_at near back edges_rise (e.0, Some e.1) e places
      (listed (e.0, Some e.1) (differs-is e (edge_below e parts.0) ∙ parts.0))
      (ap (λ b. if b then None else Some e) (kept_over e t))))
      (Lists-changed_edges before after)
