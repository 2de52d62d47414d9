-- What a finite map of labelled vertices tells, and what a cell tells of an edge after a timestamp.
use Rattle.std.proofs.Common.{◌≡◌, ℕ, Bool, true, false, ◌||◌, cond, List, ◌++◌, refl, sym, ap, ◌∙◌, Option, None}
use Rattle.std.specs.Cmp.{nat_cmp_total}
use Rattle.std.specs.FinMap as map
use Rattle.std.specs.List.{list_any}
use Rattle.std.specs.Ordering.{nat_cmp, eq_by_cmp}
use Rattle.std.proofs.lemmas.Bool.{false≢true}
use Rattle.std.proofs.lemmas.List.Folds.{list_any-append}
use Rattle.graph_types.proofs.Neighbourhoods.{find-known}
use Rattle.graph_types.proofs.Views.{none_from}
use Rattle.version_cell.specs.meaning.Cell.{Timeline, changes_of, near_after, neighbourhood_after}
use Rattle.version_cell.specs.meaning.Changes.{label_after}
use Rattle.version_cell.specs.meaning.LabelMaps.{label_map}

-- a vertex that is given has its label
pub get-label_map : (label_of : ℕ → Option ℕ) (ws : List ℕ) (w : ℕ) → map.get (label_map label_of ws) w ≡ cond (list_any (eq_by_cmp nat_cmp w) ws) (label_of w) None
get-label_map label_of ws w = map.get-from_entries nat_cmp_total _ w ∙ find-known label_of w ws

neither : (a b : Bool) → (a || b) ≡ false → (a ≡ false) × (b ≡ false)
neither true b none = absurd (false≢true (sym none))
neither false b none = (refl, none)

module _ (cell : Timeline) (t w : ℕ) where
  -- an edge that isn't there at the floor, and has no changes, isn't there
  pub nothing-after : map.get cell.at_floor.near w ≡ None → map.get cell.near w ≡ None → near_after cell t w ≡ None
  nothing-after at_floor near = λ i. label_after (at_floor i) (changes_of (near i)) t

  -- what stands after a timestamp has the label of each edge then
  pub near-neighbourhood_after : map.get (neighbourhood_after cell t).near w ≡ near_after cell t w
  near-neighbourhood_after =
      get-label_map (near_after cell t) (map.keys cell.at_floor.near ++ map.keys cell.near) w
      ∙ ap (λ b. cond b (near_after cell t w) None)
      (list_any-append (eq_by_cmp nat_cmp w) (map.keys cell.at_floor.near) (map.keys cell.near)
      ∙ (λ i. sym (map.contains_key-keys cell.at_floor.near w) i || sym (map.contains_key-keys cell.near w) i))
      ∙ elim (map.contains_key cell.at_floor.near w || map.contains_key cell.near w) as (λ b. (map.contains_key cell.at_floor.near w || map.contains_key cell.near w) ≡ b → cond b (near_after cell t w) None ≡ near_after cell t w) [
        | true ↦ λ _. refl
        | false ↦ λ none.
            let parts = neither (map.contains_key cell.at_floor.near w) (map.contains_key cell.near w) none in
            sym (nothing-after (none_from _ parts.0) (none_from _ parts.1))
      ] refl
