-- By when the changes of a cell came, after a step.
use Rattle.std.proofs.Common.{◌≡◌, ◌<◌, ◌≤◌, ◌+◌, ℕ, true, false, cond, List, [], ◌∷◌, ◌++◌, Some, sym, ap, subst, ◌∙◌, arith}
use Rattle.std.specs.Cmp.{nat_cmp_total}
use Rattle.std.specs.FinMap as map
use Rattle.std.specs.Ordering.{eq_by_cmp, nat_cmp}
use Rattle.version_cell.specs.calls.Changing.{IsFolded, KeepsVersions, with_label_change, with_near_change}
use Rattle.version_cell.specs.declared.change.Change.{Change}
use Rattle.version_cell.specs.meaning.Cell.{Timeline, changes_of, room_of}
use Rattle.version_cell.specs.meaning.Changes.{IsAfterLast, Track, with_change}
use Rattle.shard_state.proofs.Histories.{IsAfterLast-changes_after, IsAfterLast-later, IsAfterLast-with_change}
use Rattle.shard_tables.specs.calls.CellSteps.{CameBy}

pub CameBy-new : (t : ℕ) (cell : Timeline) → cell.label.changes ≡ [] → cell.near ≡ map.empty → CameBy t cell
CameBy-new t cell label near = record {
  label = subst (λ cs. IsAfterLast cs (t + 1)) (sym label) tt;
  near = λ w. subst (λ cs. IsAfterLast cs (t + 1)) (sym (ap (λ m. changes_of (map.get m w)) near ∙ ap changes_of (map.get-empty nat_cmp w))) tt;
}

-- to make room changes nothing
pub CameBy-kept : (t : ℕ) (old new : Timeline) → KeepsVersions old new → CameBy t old → CameBy t new
CameBy-kept t old new keeps came = record {
  label = subst (λ cs. IsAfterLast cs (t + 1)) (sym keeps.label) came.label;
  near = λ w. subst (λ cs. IsAfterLast cs (t + 1)) (sym (keeps.near w)) (came.near w);
}

pub CameBy-folded : (t f : ℕ) (old new : Timeline) → IsFolded old f new → CameBy t old → CameBy t new
CameBy-folded t f old new folded came = record {
  label = subst (λ cs. IsAfterLast cs (t + 1)) (sym folded.label) (IsAfterLast-changes_after _ _ (t + 1) came.label);
  near = λ w. subst (λ cs. IsAfterLast cs (t + 1)) (sym (folded.near w)) (IsAfterLast-changes_after _ _ (t + 1) (came.near w));
}

-- a timestamp later than all changes
pub label-later : (t at : ℕ) (cell : Timeline) → CameBy t cell → t < at → IsAfterLast cell.label.changes at
label-later t at cell came later = let next : t + 1 ≤ at = omega arith in IsAfterLast-later cell.label.changes (t + 1) at next came.label

pub near-later : (t at : ℕ) (cell : Timeline) → CameBy t cell → t < at → (w : ℕ) → IsAfterLast (changes_of (map.get cell.near w)) at
near-later t at cell came later w = let next : t + 1 ≤ at = omega arith in IsAfterLast-later (changes_of (map.get cell.near w)) (t + 1) at next (came.near w)

-- one change more
module _ (t : ℕ) (cell : Timeline) (came : CameBy t cell) (change : Change) (later : t < change.at) where
  next-by : (changes : List Change) → IsAfterLast changes change.at → IsAfterLast changes (change.at + 1)
  next-by changes after = let more : change.at ≤ change.at + 1 = omega arith in IsAfterLast-later changes change.at (change.at + 1) more after

  next-with : (changes : List Change) → IsAfterLast changes change.at → IsAfterLast (changes ++ change ∷ []) (change.at + 1)
  next-with changes after = let less : change.at < change.at + 1 = omega arith in IsAfterLast-with_change changes change (change.at + 1) (next-by changes after) less

  pub CameBy-label : CameBy change.at (with_label_change cell change)
  CameBy-label = record {
    label = next-with cell.label.changes (label-later t change.at cell came later);
    near = λ w. next-by (changes_of (map.get cell.near w)) (near-later t change.at cell came later w);
  }

  pub CameBy-near : (w : ℕ) → CameBy change.at (with_near_change cell w change)
  CameBy-near w = record {
    label = next-by cell.label.changes (label-later t change.at cell came later);
    near = λ v.
        let track : Track = with_change (record { changes = changes_of (map.get cell.near w); room = room_of (map.get cell.near w) }) change in
        subst (λ o. IsAfterLast (changes_of o) (change.at + 1)) (sym (map.get-insert nat_cmp_total cell.near w track v))
        (elim (eq_by_cmp nat_cmp v w) as (λ b. IsAfterLast (changes_of (cond b (Some track) (map.get cell.near v))) (change.at + 1)) [
          | true ↦ next-with (changes_of (map.get cell.near w)) (near-later t change.at cell came later w)
          | false ↦ next-by (changes_of (map.get cell.near v)) (near-later t change.at cell came later v)
        ]);
  }
