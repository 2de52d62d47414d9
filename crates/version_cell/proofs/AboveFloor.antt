-- That each call keeps the changes in order, all after the floor.
use Rattle.std.proofs.Common.{◌≡◌, ◌<◌, ◌≤◌, ℕ, true, false, nat_le, cond, max, List, [], ◌∷◌, ◌++◌, Some, refl, sym, subst, arith}
use Rattle.std.specs.Cmp.{nat_cmp_total}
use Rattle.std.specs.FinMap as map
use Rattle.std.specs.Ordering.{eq_by_cmp, nat_cmp}
use Rattle.std.proofs.lemmas.Bool.Decides.{nat_tests}
use Rattle.version_cell.specs.declared.change.Change.{Change}
use Rattle.version_cell.specs.calls.Changing.{IsFolded, KeepsVersions, with_label_change, with_near_change}
use Rattle.version_cell.specs.meaning.Cell.{Timeline, changes_of, room_of}
use Rattle.version_cell.specs.meaning.Changes.{IsAfterLast, Track, changes_after, with_change}
use Rattle.version_cell.specs.meaning.Floor.{AscendAbove, IsAboveFloor}

-- one change more, after the others
pub AscendAbove-with_change : (f : ℕ) (changes : List Change) (change : Change) → AscendAbove f changes → f < change.at → IsAfterLast changes change.at → AscendAbove f (changes ++ change ∷ [])
AscendAbove-with_change f [] change ascend above after = (above, tt)
AscendAbove-with_change f (first ∷ later) change ascend above after = (ascend.0, AscendAbove-with_change first.at later change ascend.1 after.0 after.1)

-- those that come after a later timestamp
pub AscendAbove-after : (f t : ℕ) (changes : List Change) → f ≤ t → AscendAbove f changes → AscendAbove t (changes_after changes t)
AscendAbove-after f t [] above ascend = tt
AscendAbove-after f t (change ∷ later) above ascend =
    elim (nat_le change.at t) as (λ b. nat_le change.at t ≡ b → AscendAbove t (cond b (changes_after later t) (change ∷ later))) [
      | true ↦ λ due.
          let most : change.at ≤ t = grind (arith, nat_tests) in
          AscendAbove-after change.at t later most ascend.1
      | false ↦ λ comes.
          let least : t < change.at = grind (arith, nat_tests) in
          (least, ascend.1)
    ] refl

pub IsAboveFloor-none : (cell : Timeline) → cell.label.changes ≡ [] → cell.near ≡ map.empty → IsAboveFloor cell
IsAboveFloor-none cell label near = record {
  label = subst (AscendAbove cell.floor) (sym label) tt;
  near = λ w.
      subst (λ m. AscendAbove cell.floor (changes_of (map.get m w))) (sym near)
      (subst (λ o. AscendAbove cell.floor (changes_of o)) (sym (map.get-empty {X = Track} nat_cmp w)) tt);
}

pub IsAboveFloor-kept : (old new : Timeline) → KeepsVersions old new → IsAboveFloor old → IsAboveFloor new
IsAboveFloor-kept old new keeps above = record {
  label = subst (λ f. AscendAbove f new.label.changes) (sym keeps.floor) (subst (AscendAbove old.floor) (sym keeps.label) above.label);
  near = λ w.
      subst (λ f. AscendAbove f (changes_of (map.get new.near w))) (sym keeps.floor)
      (subst (AscendAbove old.floor) (sym (keeps.near w)) (above.near w));
}

module _ (cell : Timeline) (change : Change) (above : IsAboveFloor cell) (later : cell.floor < change.at) where
  pub IsAboveFloor-label : IsAfterLast cell.label.changes change.at → IsAboveFloor (with_label_change cell change)
  IsAboveFloor-label after = record {
    label = AscendAbove-with_change cell.floor cell.label.changes change above.label later after;
    near = above.near;
  }

  pub IsAboveFloor-near : (w : ℕ) → IsAfterLast (changes_of (map.get cell.near w)) change.at → IsAboveFloor (with_near_change cell w change)
  IsAboveFloor-near w after = record {
    label = above.label;
    near = λ v.
        let track : Track = with_change (record { changes = changes_of (map.get cell.near w); room = room_of (map.get cell.near w) }) change in
        subst (λ o. AscendAbove cell.floor (changes_of o)) (sym (map.get-insert nat_cmp_total cell.near w track v))
        (elim (eq_by_cmp nat_cmp v w) as (λ b. AscendAbove cell.floor (changes_of (cond b (Some track) (map.get cell.near v)))) [
          | true ↦ AscendAbove-with_change cell.floor (changes_of (map.get cell.near w)) change (above.near w) later after
          | false ↦ above.near v
        ]);
  }

-- a fold leaves one version up to its floor
pub IsAboveFloor-folded : (old new : Timeline) (f : ℕ) → IsFolded old f new → IsAboveFloor old → IsAboveFloor new
IsAboveFloor-folded old new f folded above =
    let most : old.floor ≤ max old.floor f = omega arith in
    record {
      label =
          subst (λ n. AscendAbove n new.label.changes) (sym folded.floor)
          (subst (AscendAbove (max old.floor f)) (sym folded.label) (AscendAbove-after old.floor (max old.floor f) old.label.changes most above.label));
      near = λ w.
          subst (λ n. AscendAbove n (changes_of (map.get new.near w))) (sym folded.floor)
          (subst (AscendAbove (max old.floor f)) (sym (folded.near w)) (AscendAbove-after old.floor (max old.floor f) (changes_of (map.get old.near w)) most (above.near w)));
    }
