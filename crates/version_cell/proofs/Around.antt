-- That the edges which a cell lists around a timestamp are those of its pair.
use Rattle.std.proofs.Common.{◌≡◌, ◌-◌, ℕ, Bool, true, false, ◌||◌, cond, IsTrue, List, [], ◌∷◌, refl, sym, ap, ◌∙◌, None, Some, map as mapped, filter, Option, arith}
use Rattle.std.specs.Cmp.{nat_cmp_total, tied_itself}
use Rattle.std.specs.FinMap as map
use Rattle.std.specs.List.{AllByRecursion, list_any}
use Rattle.std.specs.List.Sorted.{IsStrictlySortedBy}
use Rattle.std.specs.Map.{keys_of}
use Rattle.std.specs.Option.{is_some, option_flatten}
use Rattle.std.specs.Ordering.{nat_cmp, eq_by_cmp, is_eq}
use Rattle.std.specs.declared.cmp.Ordering.TheVariants.{Less}
use Rattle.std.proofs.lemmas.Bool.Decides.{nat_tests}
use Rattle.std.proofs.lemmas.Map.Keys.{sorted_head, sorted_tail}
use Rattle.graph_types.specs.declared.near.Near.{Near}
use Rattle.graph_types.specs.meaning.Neighbourhood.{leads_among, near_at, near_of}
use Rattle.graph_types.specs.storage.Found.{is_near}
use Rattle.graph_types.proofs.Merging.{near_found-kept}
use Rattle.graph_types.proofs.Pairs.{IsEntry, entries-near_of}
use Rattle.graph_types.proofs.Rows.{nat-test}
use Rattle.graph_types.proofs.Views.{none_from}
use Rattle.shared_lemmas.proofs.Claims.{all-weaker}
use Rattle.shared_lemmas.proofs.FiniteMaps.{keys_rise}
use Rattle.version_cell.specs.meaning.Cell.{Timeline, changes_of, neighbourhood_after}
use Rattle.version_cell.specs.meaning.Changes.{Track, label_after}
use Rattle.version_cell.specs.storage.Around.{edge_around, near_of_vertices, near_of_places}
use Rattle.version_cell.specs.storage.Places.{HavePlaces, Places, near_at_floor, place_label}
use Rattle.version_cell.specs.storage.Tracks.{Tracks}
use Rattle.version_cell.proofs.Labels.{near-neighbourhood_after, nothing-after}
use Rattle.version_cell.proofs.PlaceLabels.{get-near_at_floor}

-- an entry below all others hides none of them
found-later : {X : Type 0} (e : ℕ × X) (es fs : List (ℕ × X)) → AllByRecursion (λ k. nat_cmp e.0 k ≡ Less) (keys_of fs) →
    AllByRecursion (λ f. map.find nat_cmp f.0 es ≡ Some f.1) fs → AllByRecursion (λ f. map.find nat_cmp f.0 (e ∷ es) ≡ Some f.1) fs
found-later e es [] below found = tt
found-later e es (f ∷ fs) below found =
    let less = below.0 in
    let apart : eq_by_cmp nat_cmp f.0 e.0 ≡ false = nat-test f.0 e.0 ∙ grind (arith, nat_tests) in
    (ap (λ b. cond b (Some e.1) (map.find nat_cmp f.0 es)) apart ∙ found.0, found-later e es fs below.1 found.1)

-- each of some entries that ascend is found
found-all : {X : Type 0} (es : List (ℕ × X)) → IsStrictlySortedBy nat_cmp (keys_of es) → AllByRecursion (λ e. map.find nat_cmp e.0 es ≡ Some e.1) es
found-all [] sorted = tt
found-all (e ∷ es) sorted = (
  ap (λ r. cond (is_eq r) (Some e.1) (map.find nat_cmp e.0 es)) (tied_itself nat_cmp_total e.0),
  found-later e es es (sorted_head nat_cmp _ _ sorted) (found-all es (sorted_tail nat_cmp _ _ sorted)),
)

filter-all : {A : Type 0} (p : A → Bool) (xs : List A) → AllByRecursion (λ x. p x ≡ true) xs → filter p xs ≡ xs
filter-all p [] passes = refl
filter-all p (x ∷ xs) passes = λ i. cond (passes.0 i) (x ∷ filter-all p xs passes.1 i) (filter-all p xs passes.1 i)

module _ (near : Tracks) (places : Places) (t : ℕ) where
  pub labels-of_places : AllByRecursion (λ e. place_label places e.0 ≡ e.1) (map.entries places)
  labels-of_places = all-weaker _ _ (λ e found. ap option_flatten (map.get-entries places e.0 ∙ found)) (map.entries places) (found-all (map.entries places) (keys_rise places))

  edges-around : (es : List (ℕ × Option ℕ)) → AllByRecursion (λ e. place_label places e.0 ≡ e.1) es → mapped (edge_around near t) es ≡ mapped (λ w. edge_around near t (w, place_label places w)) (keys_of es)
  edges-around [] labels = refl
  edges-around (e ∷ es) labels = λ i. edge_around near t (e.0, sym labels.0 i) ∷ edges-around es labels.1 i

  -- to list all places comes to looking each of them up
  pub listed-found : near_of_places near t (map.entries places) ≡ near_of_vertices near t places (map.keys places)
  listed-found = ap (filter is_near) (edges-around (map.entries places) labels-of_places)

module _ (floor : ℕ) (label : Option ℕ) (label_track : Track) (near : Tracks) (places : Places) (have : HavePlaces near places) (t : ℕ) where
  abbrev cell : Timeline
  cell = record { floor = floor; at_floor = record { label = label; near = near_at_floor places }; label = label_track; near = near }

  abbrev near_before : map.FinMap nat_cmp ℕ
  near_before = (neighbourhood_after cell (t - 1)).near

  abbrev near_then : map.FinMap nat_cmp ℕ
  near_then = (neighbourhood_after cell t).near

  label-then : (u w : ℕ) → label_after (place_label places w) (changes_of (map.get near w)) u ≡ map.get (neighbourhood_after cell u).near w
  label-then u w = ap (λ o. label_after o (changes_of (map.get near w)) u) (sym (get-near_at_floor places w)) ∙ sym (near-neighbourhood_after cell u w)

  near_at-around : (w : ℕ) → edge_around near t (w, place_label places w) ≡ near_at near_before near_then w
  near_at-around w = λ i. record { to = w; before = label-then (t - 1) w i; after = label-then t w i }

  found-alike : (ws : List ℕ) → near_of_vertices near t places ws ≡ filter is_near (mapped (near_at near_before near_then) ws)
  found-alike ws = λ i. filter is_near (mapped (λ w. near_at-around w i) ws)

  -- those among some vertices, looked up
  pub found-among : (among : List ℕ) → IsStrictlySortedBy nat_cmp among → near_of_vertices near t places among ≡ filter (leads_among among) (near_of near_before near_then)
  found-among among ascending = found-alike among ∙ near_found-kept near_before near_then among ascending

  no_track : (w : ℕ) → map.contains_key places w ≡ false → map.contains_key near w ≡ false
  no_track w absent = elim (map.contains_key near w) as (λ b. map.contains_key near w ≡ b → b ≡ false) [
    | true ↦ λ has. sym (have w has) ∙ absent
    | false ↦ λ _. refl
  ] refl

  no_edge : (w u : ℕ) → map.contains_key places w ≡ false → map.get (neighbourhood_after cell u).near w ≡ None
  no_edge w u absent =
      near-neighbourhood_after cell u w
      ∙ nothing-after cell u w (get-near_at_floor places w ∙ ap option_flatten (none_from (map.get places w) absent)) (none_from (map.get near w) (no_track w absent))

  has_place : (w : ℕ) → IsTrue (is_near (near_at near_before near_then w)) → map.contains_key places w ≡ true
  has_place w joins = elim (map.contains_key places w) as (λ b. map.contains_key places w ≡ b → b ≡ true) [
    | true ↦ λ _. refl
    | false ↦ λ absent. (λ i. is_some (sym (no_edge w (t - 1) absent) i) || is_some (sym (no_edge w t absent) i)) ∙ joins
  ] refl

  leads : (n : Near) → IsEntry near_before near_then n → leads_among (map.keys places) n ≡ true
  leads n entry =
      (λ i. list_any (λ v. sym (nat-test n.to v) i) (map.keys places))
      ∙ sym (map.contains_key-keys places n.to)
      ∙ has_place n.to (ap is_near (sym entry.labels) ∙ entry.joined)

  -- all places, listed
  pub listed-near_of : near_of_places near t (map.entries places) ≡ near_of near_before near_then
  listed-near_of =
      listed-found near places t
      ∙ found-among (map.keys places) (keys_rise places)
      ∙ filter-all (leads_among (map.keys places)) (near_of near_before near_then)
      (all-weaker _ _ leads (near_of near_before near_then) (entries-near_of near_before near_then))
