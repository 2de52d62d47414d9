-- Lists of changes that are gone over beside the places of the same vertices.
use Rattle.std.proofs.Common.{◌≡◌, ◌<◌, ℕ, Bool, true, false, cond, eqb, IsTrue, List, [], ◌∷◌, ◌++◌, append_assoc, refl, sym, ap, subst, ◌∙◌, Option, None, Some, map as mapped, filter, arith}
use Rattle.std.specs.Cmp.{nat_cmp_total}
use Rattle.std.specs.FinMap as map
use Rattle.std.specs.List.{AllByRecursion}
use Rattle.std.specs.List.Sorted.{IsStrictlySortedBy}
use Rattle.std.specs.Map.{keys_of}
use Rattle.std.specs.Option.{is_some}
use Rattle.std.specs.Ordering.{nat_cmp}
use Rattle.std.specs.declared.cmp.Ordering.TheVariants.{Less}
use Rattle.std.proofs.lemmas.Bool.{false≢true}
use Rattle.std.proofs.lemmas.Bool.Decides.{nat_tests}
use Rattle.std.proofs.lemmas.Map.Keys.{sorted_head, sorted_tail}
use Rattle.graph_types.specs.declared.near.Near.{Near}
use Rattle.graph_types.specs.storage.Found.{is_near}
use Rattle.graph_types.proofs.Rows.{find-below, nat-test}
use Rattle.shared_lemmas.proofs.Claims.{all-weaker}
use Rattle.shared_lemmas.proofs.FiniteMaps.{keys_rise}
use Rattle.version_cell.specs.meaning.Changes.{Track}
use Rattle.version_cell.specs.storage.Around.{edge_with, near_of_places}
use Rattle.version_cell.specs.storage.Merging.{first_at, left_after}
use Rattle.version_cell.specs.storage.Places.{HavePlaces, Places}

module _ {X : Type 0} where
  find-here : (w : ℕ) (e : ℕ × X) (es : List (ℕ × X)) → eqb w e.0 ≡ true → map.find nat_cmp w (e ∷ es) ≡ Some e.1
  find-here w e es same = ap (λ b. cond b (Some e.1) (map.find nat_cmp w es)) (nat-test w e.0 ∙ same)

  find-apart : (w : ℕ) (e : ℕ × X) (es : List (ℕ × X)) → eqb w e.0 ≡ false → map.find nat_cmp w (e ∷ es) ≡ map.find nat_cmp w es
  find-apart w e es apart = ap (λ b. cond b (Some e.1) (map.find nat_cmp w es)) (nat-test w e.0 ∙ apart)

  -- what is found among entries that all come after k comes after k
  found-above : (k : ℕ) (es : List (ℕ × X)) → AllByRecursion (λ y. nat_cmp k y ≡ Less) (keys_of es) → (w : ℕ) → IsTrue (is_some (map.find nat_cmp w es)) → k < w
  found-above k [] above w found = absurd (false≢true found)
  found-above k (e ∷ es) above w found =
      elim (eqb w e.0) as (λ b. eqb w e.0 ≡ b → k < w) [
        | true ↦ λ same.
            let less : nat_cmp k e.0 ≡ Less = above.0 in
            grind (arith, nat_tests)
        | false ↦ λ apart. found-above k es above.1 w (ap is_some (sym (find-apart w e es apart)) ∙ found)
      ] refl

below-all : (k m : ℕ) → k < m → (ks : List ℕ) → AllByRecursion (λ y. nat_cmp m y ≡ Less) ks → AllByRecursion (λ y. nat_cmp k y ≡ Less) ks
below-all k m less = all-weaker _ _ (λ y above. let then : nat_cmp m y ≡ Less = above in grind (arith, nat_tests))

-- the edges that are there before or after timestamp t, where these are the changes
abbrev pub edges_with : List (ℕ × Track) → ℕ → List (ℕ × Option ℕ) → List Near
edges_with changes t places = filter is_near (mapped (λ place. edge_with (map.find nat_cmp place.0 changes) t place) places)

edges_with-seen : (changes : List (ℕ × Track)) (t : ℕ) (places : List (ℕ × Option ℕ)) → near_of_places (map.from_entries changes) t places ≡ edges_with changes t places
edges_with-seen changes t places = λ i. filter is_near (mapped (λ place. edge_with (map.get-from_entries nat_cmp_total changes place.0 i) t place) places)

-- changes and places ascend, and each vertex that has changes has a place
pub record IsMerging (changes : List (ℕ × Track)) (places : List (ℕ × Option ℕ)) : Type 0 where
  changes_ascend : IsStrictlySortedBy nat_cmp (keys_of changes)
  places_ascend : IsStrictlySortedBy nat_cmp (keys_of places)
  have : (w : ℕ) → IsTrue (is_some (map.find nat_cmp w changes)) → IsTrue (is_some (map.find nat_cmp w places))

module _ (to : ℕ) (label : Option ℕ) (places : List (ℕ × Option ℕ)) where
  later-place : (w : ℕ) → eqb w to ≡ false → IsTrue (is_some (map.find nat_cmp w ((to, label) ∷ places))) → IsTrue (is_some (map.find nat_cmp w places))
  later-place w apart has = ap is_some (sym (find-apart w (to, label) places apart)) ∙ has

  -- what is known of the first place, and of those after it
  record IsPassed (changes : List (ℕ × Track)) : Type 0 where
    first : first_at to changes ≡ map.find nat_cmp to changes
    others : AllByRecursion (λ place. map.find nat_cmp place.0 changes ≡ map.find nat_cmp place.0 (left_after to changes)) places
    merging : IsMerging (left_after to changes) places

  -- where the first changes are of the vertex of the first place
  passed-here : (e : ℕ × Track) (es : List (ℕ × Track)) → IsMerging (e ∷ es) ((to, label) ∷ places) → eqb e.0 to ≡ true → IsPassed (e ∷ es)
  passed-here e es merging same =
      let turned : eqb to e.0 ≡ true = grind (arith, nat_tests) in
      let above : AllByRecursion (λ y. nat_cmp to y ≡ Less) (keys_of places) = sorted_head nat_cmp _ _ merging.places_ascend in
      let after : AllByRecursion (λ y. nat_cmp e.0 y ≡ Less) (keys_of es) = sorted_head nat_cmp _ _ merging.changes_ascend in
      record {
        first = ap (λ b. cond b (Some e.1) None) same ∙ sym (find-here to e es turned);
        others = subst (λ left. AllByRecursion (λ place. map.find nat_cmp place.0 (e ∷ es) ≡ map.find nat_cmp place.0 left) places) (ap (λ b. cond b es (e ∷ es)) (sym same)) (passed-others e es same places above);
        merging = subst (λ left. IsMerging left places) (ap (λ b. cond b es (e ∷ es)) (sym same)) (record {
          changes_ascend = sorted_tail nat_cmp _ _ merging.changes_ascend;
          places_ascend = sorted_tail nat_cmp _ _ merging.places_ascend;
          have = λ w found.
              let more : e.0 < w = found-above e.0 es after w found in
              let apart : eqb w to ≡ false = grind (arith, nat_tests) in
              let other : eqb w e.0 ≡ false = grind (arith, nat_tests) in
              later-place w apart (merging.have w (ap is_some (find-apart w e es other) ∙ found));
        });
      }
    where
      passed-others : (e : ℕ × Track) (es : List (ℕ × Track)) → eqb e.0 to ≡ true → (ps : List (ℕ × Option ℕ)) → AllByRecursion (λ y. nat_cmp to y ≡ Less) (keys_of ps) →
          AllByRecursion (λ place. map.find nat_cmp place.0 (e ∷ es) ≡ map.find nat_cmp place.0 es) ps
      passed-others e es same [] above = tt
      passed-others e es same (p ∷ ps) above =
          let less : nat_cmp to p.0 ≡ Less = above.0 in
          let apart : eqb p.0 e.0 ≡ false = grind (arith, nat_tests) in
          (find-apart p.0 e es apart, passed-others e es same ps above.1)

  -- where they are of a later one
  passed-later : (e : ℕ × Track) (es : List (ℕ × Track)) → IsMerging (e ∷ es) ((to, label) ∷ places) → eqb e.0 to ≡ false → IsPassed (e ∷ es)
  passed-later e es merging apart =
      let itself : eqb e.0 e.0 ≡ true = grind (arith, nat_tests) in
      let has : IsTrue (is_some (map.find nat_cmp e.0 places)) = later-place e.0 apart (merging.have e.0 (ap is_some (find-here e.0 e es itself))) in
      let more : to < e.0 = found-above to places (sorted_head nat_cmp _ _ merging.places_ascend) e.0 has in
      let first_less : nat_cmp to e.0 ≡ Less = grind (arith, nat_tests) in
      let all : AllByRecursion (λ y. nat_cmp to y ≡ Less) (keys_of (e ∷ es)) = (first_less, below-all to e.0 more (keys_of es) (sorted_head nat_cmp _ _ merging.changes_ascend)) in
      let left : e ∷ es ≡ left_after to (e ∷ es) = ap (λ b. cond b es (e ∷ es)) (sym apart) in
      record {
        first = ap (λ b. cond b (Some e.1) None) apart ∙ sym (find-below nat_cmp to (e ∷ es) all);
        others = subst (λ left. AllByRecursion (λ place. map.find nat_cmp place.0 (e ∷ es) ≡ map.find nat_cmp place.0 left) places) left (all-same (e ∷ es) places);
        merging = subst (λ left. IsMerging left places) left (record {
          changes_ascend = merging.changes_ascend;
          places_ascend = sorted_tail nat_cmp _ _ merging.places_ascend;
          have = λ w found.
              let above : to < w = found-above to (e ∷ es) all w found in
              let other : eqb w to ≡ false = grind (arith, nat_tests) in
              later-place w other (merging.have w found);
        });
      }
    where
      all-same : (es : List (ℕ × Track)) (ps : List (ℕ × Option ℕ)) → AllByRecursion (λ place. map.find nat_cmp place.0 es ≡ map.find nat_cmp place.0 es) ps
      all-same es [] = tt
      all-same es (p ∷ ps) = (refl, all-same es ps)

  passed : (changes : List (ℕ × Track)) → IsMerging changes ((to, label) ∷ places) → IsPassed changes
  passed [] merging = record {
    first = refl;
    others = unchanged places;
    merging = record {
      changes_ascend = merging.changes_ascend;
      places_ascend = sorted_tail nat_cmp _ _ merging.places_ascend;
      have = λ w found. absurd (false≢true found);
    };
  }
    where
      unchanged : (ps : List (ℕ × Option ℕ)) → AllByRecursion (λ place. map.find {X = Track} nat_cmp place.0 [] ≡ map.find nat_cmp place.0 []) ps
      unchanged [] = tt
      unchanged (p ∷ ps) = (refl, unchanged ps)
  passed (e ∷ es) merging = elim (eqb e.0 to) as (λ b. eqb e.0 to ≡ b → IsPassed (e ∷ es)) [
    | true ↦ passed-here e es merging
    | false ↦ passed-later e es merging
  ] refl

edges_with-alike : (changes left : List (ℕ × Track)) (t : ℕ) (places : List (ℕ × Option ℕ)) →
    AllByRecursion (λ place. map.find nat_cmp place.0 changes ≡ map.find nat_cmp place.0 left) places → edges_with changes t places ≡ edges_with left t places
edges_with-alike changes left t places alike = ap (filter is_near) (edges places alike)
  where
    edges : (ps : List (ℕ × Option ℕ)) → AllByRecursion (λ place. map.find nat_cmp place.0 changes ≡ map.find nat_cmp place.0 left) ps →
        mapped (λ place. edge_with (map.find nat_cmp place.0 changes) t place) ps ≡ mapped (λ place. edge_with (map.find nat_cmp place.0 left) t place) ps
    edges [] same = refl
    edges (p ∷ ps) same = λ i. edge_with (same.0 i) t p ∷ edges ps same.1 i

-- what is listed, with what is still to come, is the whole
pub record IsListing (t : ℕ) (whole listed : List Near) (changes : List (ℕ × Track)) (places : List (ℕ × Option ℕ)) : Type 0 where
  pub merging : IsMerging changes places
  pub rest : listed ++ edges_with changes t places ≡ whole

pub listing-init : (t : ℕ) (changes : List (ℕ × Track)) (places : Places) → IsStrictlySortedBy nat_cmp (keys_of changes) → HavePlaces (map.from_entries {R = nat_cmp} changes) places →
    IsListing t (near_of_places (map.from_entries changes) t (map.entries places)) [] changes (map.entries places)
listing-init t changes places ascend have = record {
  merging = record {
    changes_ascend = ascend;
    places_ascend = keys_rise places;
    have = λ w found. ap is_some (sym (map.get-entries places w)) ∙ have w (ap is_some (map.get-from_entries nat_cmp_total changes w) ∙ found);
  };
  rest = sym (edges_with-seen changes t (map.entries places));
}

module _ (t : ℕ) (whole listed : List Near) (changes : List (ℕ × Track)) (to : ℕ) (label : Option ℕ) (places : List (ℕ × Option ℕ)) (listing : IsListing t whole listed changes ((to, label) ∷ places))
    (near : Near) (is : near ≡ edge_with (first_at to changes) t (to, label)) where
  first-edge : near ≡ edge_with (map.find nat_cmp to changes) t (to, label)
  first-edge = is ∙ ap (λ track. edge_with track t (to, label)) (passed to label places changes listing.merging).first

  rest-is : (b : Bool) → is_near near ≡ b → listed ++ cond b (near ∷ edges_with (left_after to changes) t places) (edges_with (left_after to changes) t places) ≡ whole
  rest-is b joined =
      let others = edges_with-alike changes (left_after to changes) t places (passed to label places changes listing.merging).others in
      (λ i. listed ++ cond (sym joined i) (near ∷ sym others i) (sym others i))
      ∙ (λ i. listed ++ cond (is_near (first-edge i)) (first-edge i ∷ edges_with changes t places) (edges_with changes t places))
      ∙ listing.rest

  -- one place more, to which an edge leads
  pub listing-joined : is_near near ≡ true → IsListing t whole (listed ++ near ∷ []) (left_after to changes) places
  listing-joined joined = record {
    merging = (passed to label places changes listing.merging).merging;
    rest = append_assoc listed (near ∷ []) (edges_with (left_after to changes) t places) ∙ rest-is true joined;
  }

  -- and one to which none leads
  pub listing-passed : is_near near ≡ false → IsListing t whole listed (left_after to changes) places
  listing-passed apart = record {
    merging = (passed to label places changes listing.merging).merging;
    rest = rest-is false apart;
  }
