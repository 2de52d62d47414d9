-- Keeping what stood in a graph before it changed.
use Rattle.std.proofs.Common.{◌≡◌, ℕ, Bool, true, false, ◌||◌, cond, IsTrue, List, ◌∷◌, Option, None, Some, is_some, unwrap_or, refl, sym, ap, subst, ◌∙◌}
use Rattle.std.specs.BTreeMap.{BTreeMap, get, is_at}
use Rattle.std.specs.Map.{lookup}
use Rattle.std.specs.Ordering.{eq_by_cmp}
use Rattle.std.proofs.lemmas.Bool.{false≢true, or_left, or_right}
use Rattle.graph_types.specs.meaning.Graph.{Graph}
use Rattle.shared_lemmas.proofs.Orderings.{same_item}
use Rattle.update_rules.specs.calls.Overlays.{IsOverlaid}
use Rattle.group_window.specs.calls.Keeping.{HasPlaces}
use Rattle.update_rules.specs.meaning.Places.{Place, place_cmp, entry_at}
use Rattle.update_rules.proofs.Places.{place_cmp-IsAntisymmetric}

-- to keep one entry more
pub IsOverlaid-kept : (old new : BTreeMap Place (Option ℕ)) (now before : Graph) (place : Place) → get place_cmp old place ≡ None
    → ((p : Place) → get place_cmp new p ≡ cond (eq_by_cmp place_cmp place p) (Some (entry_at now place)) (get place_cmp old p)) → IsOverlaid old now before → IsOverlaid new now before
IsOverlaid-kept old new now before place none is overlaid = λ p.
    elim (eq_by_cmp place_cmp place p) as (λ b. eq_by_cmp place_cmp place p ≡ b → get place_cmp new p ≡ cond b (Some (entry_at now place)) (get place_cmp old p) → entry_at before p ≡ unwrap_or (get place_cmp new p) (entry_at now p)) [
      | true ↦ λ same found. let e = same_item place_cmp-IsAntisymmetric place p same in
          overlaid p ∙ ap (λ o. unwrap_or o (entry_at now p)) (ap (get place_cmp old) (sym e) ∙ none) ∙ ap (entry_at now) (sym e) ∙ sym (ap (λ o. unwrap_or o (entry_at now p)) found)
      | false ↦ λ _ found. overlaid p ∙ ap (λ o. unwrap_or o (entry_at now p)) (sym found)
    ] refl (is p)

either_way : (a b c : Bool) → (IsTrue a → IsTrue c) → IsTrue (a || b) → IsTrue (c || b)
either_way true b c so h = or_left c b (so refl)
either_way false b c so h = or_right c b h

-- one entry of a list is kept: each place that is to come is there already, or still to come
pub places-step : (old new : BTreeMap Place (Option ℕ)) (e : Place × Option ℕ) (es : List (Place × Option ℕ)) → HasPlaces new old → IsTrue (is_some (get place_cmp new e.0))
    → (p : Place) → IsTrue (is_some (get place_cmp old p) || is_some (lookup (is_at (place_cmp p)) (e ∷ es))) → IsTrue (is_some (get place_cmp new p) || is_some (lookup (is_at (place_cmp p)) es))
places-step old new e es others own p h =
    elim (eq_by_cmp place_cmp p e.0) as (λ b. eq_by_cmp place_cmp p e.0 ≡ b → IsTrue (is_some (get place_cmp old p) || is_some (cond b (Some e.1) (lookup (is_at (place_cmp p)) es))) → IsTrue (is_some (get place_cmp new p) || is_some (lookup (is_at (place_cmp p)) es))) [
      | true ↦ λ same _. or_left _ _ (subst (λ q. IsTrue (is_some (get place_cmp new q))) (sym (same_item place_cmp-IsAntisymmetric p e.0 same)) own)
      | false ↦ λ _ left. either_way _ _ _ (others p) left
    ] refl h

pub nothing_left : (a : Bool) → IsTrue (a || false) → IsTrue a
nothing_left true h = h
nothing_left false h = h

-- where each entry that changes is kept, the graph before is still told by what is kept
pub IsOverlaid-next : (earlier entries : BTreeMap Place (Option ℕ)) (before now next : Graph) → IsOverlaid earlier now before → IsOverlaid entries now next → HasPlaces earlier entries → IsOverlaid earlier next before
IsOverlaid-next earlier entries before now next overlaid changes places = λ p. at (get place_cmp earlier p) (get place_cmp entries p) _ _ _ (overlaid p) (changes p) (places p)
  where
    at : (o q : Option (Option ℕ)) (was is will : Option ℕ) → was ≡ unwrap_or o is → will ≡ unwrap_or q is → (IsTrue (is_some q) → IsTrue (is_some o)) → was ≡ unwrap_or o will
    at (Some x) q was is will kept new so = kept
    at None None was is will kept new so = kept ∙ sym new
    at None (Some y) was is will kept new so = absurd (false≢true (so refl))

pub none_held : (o : Option (Option ℕ)) (b : Bool) → b ≡ is_some o → b ≡ false → o ≡ None
none_held None b is absent = refl
none_held (Some x) b is absent = absurd (false≢true (sym absent ∙ is))

pub kept_there : (b : Bool) (x : Option ℕ) (old new : Option (Option ℕ)) → new ≡ cond b (Some x) old → IsTrue (is_some old) → IsTrue (is_some new)
kept_there true x old new is has = ap is_some is
kept_there false x old new is has = ap is_some is ∙ has
