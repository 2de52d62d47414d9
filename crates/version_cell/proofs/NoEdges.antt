-- Places to which no edge leads at the floor.
use Rattle.std.proofs.Common.{◌≡◌, ℕ, Bool, true, false, ◌||◌, cond, List, [], ◌∷◌, length, refl, sym, ap, ◌∙◌, Option, None, Some}
use Rattle.std.specs.Cmp.{nat_cmp_total, tied_itself}
use Rattle.std.specs.FinMap as map
use Rattle.std.specs.List.{AllByRecursion, list_any}
use Rattle.std.specs.Option.{is_some, option_flatten}
use Rattle.std.specs.Ordering.{eq_by_cmp, is_eq, nat_cmp}
use Rattle.std.proofs.lemmas.Bool.{false≢true}
use Rattle.graph_types.proofs.Views.{none_from}
use Rattle.version_cell.specs.storage.Places.{Places, near_at_floor, place_label}
use Rattle.version_cell.proofs.Around.{labels-of_places}
use Rattle.version_cell.proofs.PlaceLabels.{get-near_at_floor}

-- an edge leads to one of the places
abbrev pub has_edge : List (ℕ × Option ℕ) → Bool
has_edge places = list_any (λ place. is_some place.1) places

neither : (a b : Bool) → (a || b) ≡ false → (a ≡ false) × (b ≡ false)
neither true b none = absurd (false≢true (sym none))
neither false b none = (refl, none)

found-none : (es : List (ℕ × Option ℕ)) → has_edge es ≡ false → (w : ℕ) → option_flatten (map.find nat_cmp w es) ≡ None
found-none [] none w = refl
found-none (e ∷ es) none w =
    let parts = neither (is_some e.1) (has_edge es) none in
    elim (eq_by_cmp nat_cmp w e.0) as (λ b. option_flatten (cond b (Some e.1) (map.find nat_cmp w es)) ≡ None) [
      | true ↦ none_from e.1 parts.0
      | false ↦ found-none es parts.1 w
    ]

module _ (places : Places) where
  pub near_at_floor-none : has_edge (map.entries places) ≡ false → near_at_floor places ≡ map.empty
  near_at_floor-none none =
      map.same_map nat_cmp_total map.nat_cmp-IsAntisymmetric (near_at_floor places) map.empty (λ w.
      get-near_at_floor places w
      ∙ ap option_flatten (map.get-entries places w)
      ∙ found-none (map.entries places) none w
      ∙ sym (map.get-empty {X = ℕ} nat_cmp w))

  none-among : near_at_floor places ≡ map.empty → (es : List (ℕ × Option ℕ)) → AllByRecursion (λ e. place_label places e.0 ≡ e.1) es → has_edge es ≡ false
  none-among none [] labels = refl
  none-among none (e ∷ es) labels =
      let absent : e.1 ≡ None = sym labels.0 ∙ sym (get-near_at_floor places e.0) ∙ ap (λ m. map.get m e.0) none ∙ map.get-empty {X = ℕ} nat_cmp e.0 in
      (λ i. is_some (absent i) || none-among none es labels.1 i)

  pub has_edge-none : near_at_floor places ≡ map.empty → has_edge (map.entries places) ≡ false
  has_edge-none none = none-among none (map.entries places) (labels-of_places map.empty places 0)

-- no entries make the map with none
pub no_entries : {X : Type 0} (es : List (ℕ × X)) → map.from_entries {R = nat_cmp} es ≡ map.empty → length es ≡ 0
no_entries [] none = refl
no_entries {X} (e ∷ es) none =
    let found : map.get (map.from_entries {R = nat_cmp} (e ∷ es)) e.0 ≡ Some e.1 =
    map.get-from_entries nat_cmp_total (e ∷ es) e.0 ∙ ap (λ r. cond (is_eq r) (Some e.1) (map.find nat_cmp e.0 es)) (tied_itself nat_cmp_total e.0) in
    absurd (false≢true (ap is_some (sym (map.get-empty {X = X} nat_cmp e.0)) ∙ ap (λ m. is_some (map.get m e.0)) (sym none) ∙ ap is_some found))
