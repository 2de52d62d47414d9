-- What cells know of each entry, as entries.
use Rattle.std.proofs.Common.{◌≡◌, ℕ, true, false, cond, IsTrue, List, [], ◌∷◌, ◌++◌, Option, None, Some, refl, sym, ap, subst, ◌∙◌, inl, inr}
use Rattle.std.specs.Cmp.{nat_cmp_total}
use Rattle.std.specs.FinMap as map
use Rattle.std.specs.List.{flat_map}
use Rattle.std.specs.Option.{is_some}
use Rattle.std.specs.Ordering.{eq_by_cmp, nat_cmp}
use Rattle.std.proofs.lemmas.Bool.{false≢true}
use Rattle.shared_lemmas.specs.meaning.Membership.{IsIn}
use Rattle.shared_lemmas.proofs.FiniteMaps.{IsIn-keys}
use Rattle.shared_lemmas.proofs.Membership.{IsIn-append_left, IsIn-append_right, IsIn-map}
use Rattle.shared_lemmas.proofs.Orderings.{same_item}
use Rattle.update_rules.specs.meaning.Places.{Place}
use Rattle.update_rules.proofs.Lookups.{member-from_in}
use Rattle.update_rules.proofs.Places.{place_cmp_total, place_cmp-IsAntisymmetric}
use Rattle.version_cell.specs.meaning.Cell.{Timeline, changes_of}
use Rattle.version_cell.specs.meaning.Changes.{Track}
use Rattle.shard_state.specs.meaning.Versions.{some_of, some_versions}
use Rattle.shard_state.specs.storage.Cells.{Cells, entries_of, places_of_cell, versions_in, versions_in_cell, versions_known}
use Rattle.shard_state.proofs.KnownMaps.{get-map_of_known}
use Rattle.shard_state.proofs.Knowing.{Know}

found-in : (v : ℕ) (cell : Timeline) (es : List (ℕ × Timeline)) → map.find nat_cmp v es ≡ Some cell → IsIn (v, cell) es
found-in v cell [] e = cc
found-in v cell (entry ∷ es) e =
    elim (eq_by_cmp nat_cmp v entry.0) as (λ b. eq_by_cmp nat_cmp v entry.0 ≡ b → cond b (Some entry.1) (map.find nat_cmp v es) ≡ Some cell → IsIn (v, cell) (entry ∷ es)) [
      | true ↦ λ same found.
          let own : entry.1 ≡ cell = cc in
          inl (λ i. (same_item map.nat_cmp-IsAntisymmetric v entry.0 same i, sym own i))
      | false ↦ λ _ found. inr (found-in v cell es found)
    ] refl e

pub IsIn-flat_map : {A B : Type 0} (f : A → List B) (x : A) (y : B) (xs : List A) → IsIn x xs → IsIn y (f x) → IsIn y (flat_map f xs)
IsIn-flat_map f x y [] here own = absurd here
IsIn-flat_map f x y (z ∷ xs) (inl same) own = IsIn-append_left y (f z) (flat_map f xs) (subst (λ u. IsIn y (f u)) same own)
IsIn-flat_map f x y (z ∷ xs) (inr here) own = IsIn-append_right y (f z) (flat_map f xs) (IsIn-flat_map f x y xs here own)

-- where a cell knows something of an edge, it has its end
module _ (cell : Timeline) (w : ℕ) where
  with_track : (track : Option Track) → map.get cell.near w ≡ track → IsTrue (is_some (some_of None (changes_of track))) → IsIn w (map.keys cell.at_floor.near ++ map.keys cell.near)
  with_track None is some = absurd (false≢true some)
  with_track (Some track) is some =
      IsIn-append_right w (map.keys cell.at_floor.near) (map.keys cell.near) (IsIn-keys nat_cmp_total cell.near map.nat_cmp-IsAntisymmetric w (ap is_some is))

  end_known : (label : Option ℕ) → map.get cell.at_floor.near w ≡ label → IsTrue (is_some (some_of label (changes_of (map.get cell.near w)))) → IsIn w (map.keys cell.at_floor.near ++ map.keys cell.near)
  end_known None is some = with_track (map.get cell.near w) refl some
  end_known (Some label) is some =
      IsIn-append_left w (map.keys cell.at_floor.near) (map.keys cell.near) (IsIn-keys nat_cmp_total cell.at_floor.near map.nat_cmp-IsAntisymmetric w (ap is_some is))

place_in : (v : ℕ) (cell : Timeline) (to : Option ℕ) → IsTrue (is_some (some_versions (versions_in_cell cell to))) → IsIn (v, to) (places_of_cell (v, cell))
place_in v cell None some = inl refl
place_in v cell (Some w) some = inr (IsIn-map (λ u. (v, Some u)) w (map.keys cell.at_floor.near ++ map.keys cell.near) (end_known cell w (map.get cell.at_floor.near w) refl some))

place_known : (cells : Cells) (p : Place) (o : Option Timeline) → map.get cells p.0 ≡ o → IsTrue (is_some (some_versions (versions_in cells p))) → IsIn p (flat_map places_of_cell (map.entries cells))
place_known cells p None is some = absurd (false≢true (sym (ap (λ o. is_some (some_versions (versions_known o p.1))) is) ∙ some))
place_known cells p (Some cell) is some =
    IsIn-flat_map places_of_cell (p.0, cell) p (map.entries cells) (found-in p.0 cell (map.entries cells) (sym (map.get-entries cells p.0) ∙ is))
    (place_in p.0 cell p.1 (sym (ap (λ o. is_some (some_versions (versions_known o p.1))) is) ∙ some))

-- the entries are those of which the cells know something
pub Know-entries_of : (cells : Cells) → Know (entries_of cells) (versions_in cells)
Know-entries_of cells =
    get-map_of_known place_cmp_total place_cmp-IsAntisymmetric (λ p. some_versions (versions_in cells p)) (flat_map places_of_cell (map.entries cells))
    (λ p some. member-from_in place_cmp_total place_cmp-IsAntisymmetric p (flat_map places_of_cell (map.entries cells)) (place_known cells p (map.get cells p.0) refl some))
