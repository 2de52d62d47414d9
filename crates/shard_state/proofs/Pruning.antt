-- What is stored while cells are folded.
use Rattle.std.proofs.Common.{◌≡◌, ◌<◌, ◌≤◌, ℕ, true, false, eqb, eq-eqb, nat_le, max, List, [], ◌∷◌, length, refl, sym, ap, subst, ◌∙◌, inl, inr, arith}
use Rattle.std.specs.List.{AllByRecursion}
use Rattle.std.proofs.lemmas.Bool.{eqb-true, false≢true}
use Rattle.std.proofs.lemmas.Bool.Decides.{nat_tests}
use Rattle.shared_lemmas.specs.meaning.Membership.{IsIn}
use Rattle.shared_lemmas.proofs.Claims.{all-both, all-weaker}
use Rattle.update_rules.specs.meaning.Places.{Place}
use Rattle.version_cell.specs.declared.change.Change.{Change as Version}
use Rattle.version_cell.specs.meaning.Changes.{changes_after}
use Rattle.version_cell.specs.meaning.Floor.{AscendAbove}
use Rattle.version_cell.proofs.AboveFloor.{AscendAbove-after}
use Rattle.shard_state.specs.calls.CellChanges.{FoldsCell}
use Rattle.shard_state.specs.calls.Touching.{begins_by}
use Rattle.shard_state.specs.declared.touch.Touch.{Touch}
use Rattle.shard_state.specs.meaning.Versions.{Versions, folded_to}
use Rattle.shard_state.specs.storage.Cells.{Cells, floor_in, versions_in}
use Rattle.shard_state.specs.storage.Touched.{AreBetween, AreNoted, AreRising, IsStored}
use Rattle.shard_state.proofs.Histories.{AscendAbove-lower, all-above, all-changes_after, folded_to-later, folded_to-twice}
use Rattle.shard_state.proofs.Storing.{between-noted}

-- Some cells are folded to f, and what is left in the list has the others that need it.
pub record IsFolding (u f : ℕ) (old cells : Cells) (touches : List Touch) : Type 0 where
  pub floors : (v : ℕ) → floor_in cells v ≤ f
  pub ascending : (p : Place) → AscendAbove (floor_in cells p.0) (versions_in cells p).changes
  pub noted : (p : Place) → AreNoted touches p.0 (versions_in cells p).changes
  pub rising : AreRising touches
  pub by_last : AllByRecursion (λ touch. touch.at ≤ u) touches
  pub folded : (p : Place) → folded_to f (versions_in cells p) ≡ folded_to f (versions_in old p)

pub folding-init : (floor u f : ℕ) (cells : Cells) (touches : List Touch) → IsStored floor u cells touches → floor ≤ f → IsFolding u f cells cells touches
folding-init floor u f cells touches stored lower = record {
  floors = λ v. omega (arith, stored.floors v, lower);
  ascending = stored.ascending;
  noted = stored.noted;
  rising = stored.rising;
  by_last = all-weaker (λ touch. (floor < touch.at) × (touch.at ≤ u)) (λ touch. touch.at ≤ u) (λ touch both. both.1) touches stored.between;
  folded = λ p. refl;
}

-- without one touch, those changes are noted that come after it
noted-without : (a v w : ℕ) (rest : List Touch) (changes : List Version) → AllByRecursion (λ change. a < change.at) changes → AreNoted (record { at = a; vertex = v } ∷ rest) w changes → AreNoted rest w changes
noted-without a v w rest [] later noted = tt
noted-without a v w rest (change ∷ changes) later noted = (found noted.0, noted-without a v w rest changes later.1 noted.1)
  where
    found : IsIn (record { at = change.at; vertex = w }) (record { at = a; vertex = v } ∷ rest) → IsIn (record { at = change.at; vertex = w }) rest
    found (inl same) = let equal : change.at ≡ a = ap (λ t. t.at) same in absurd (omega (arith, later.0, equal))
    found (inr there) = there

-- and those of other vertices
noted-other : (a v w : ℕ) (rest : List Touch) (changes : List Version) → eqb w v ≡ false → AreNoted (record { at = a; vertex = v } ∷ rest) w changes → AreNoted rest w changes
noted-other a v w rest [] apart noted = tt
noted-other a v w rest (change ∷ changes) apart noted = (found noted.0, noted-other a v w rest changes apart noted.1)
  where
    found : IsIn (record { at = change.at; vertex = w }) (record { at = a; vertex = v } ∷ rest) → IsIn (record { at = change.at; vertex = w }) rest
    found (inl same) = absurd (false≢true (sym apart ∙ eq-eqb w v (ap (λ t. t.vertex) same)))
    found (inr there) = there

module _ (u f : ℕ) (old cells new : Cells) (a v : ℕ) (rest : List Touch) (due : a ≤ f) (folding : IsFolding u f old cells (record { at = a; vertex = v } ∷ rest)) where
  -- the cell was folded so far before
  skipped : f ≤ floor_in cells v → (p : Place) → AreNoted rest p.0 (versions_in cells p).changes
  skipped ahead p =
      elim (eqb p.0 v) as (λ b. eqb p.0 v ≡ b → AreNoted rest p.0 (versions_in cells p).changes) [
        | true ↦ λ same.
            let above : f ≤ floor_in cells p.0 = subst (λ w. f ≤ floor_in cells w) (sym (eqb-true p.0 v same)) ahead in
            noted-without a v p.0 rest (versions_in cells p).changes
            (all-weaker (λ change. floor_in cells p.0 < change.at) (λ change. a < change.at) (λ change later. omega (arith, later, above, due)) (versions_in cells p).changes
            (all-above (floor_in cells p.0) (versions_in cells p).changes (folding.ascending p)))
            (folding.noted p)
        | false ↦ λ apart. noted-other a v p.0 rest (versions_in cells p).changes apart (folding.noted p)
      ] refl

  folding-skipped : f ≤ floor_in cells v → IsFolding u f old cells rest
  folding-skipped ahead = record {
    floors = folding.floors;
    ascending = folding.ascending;
    noted = skipped ahead;
    rising = folding.rising.1;
    by_last = folding.by_last.1;
    folded = folding.folded;
  }

  -- the cell is folded now
  module _ (folds : FoldsCell cells new v f) where
    own_folded : (p : Place) → p.0 ≡ v → versions_in new p ≡ folded_to f (versions_in cells p)
    own_folded p same = folds.own p same ∙ ap (λ n. folded_to n (versions_in cells p)) most
      where
        most : max (floor_in cells v) f ≡ f
        most = omega (arith, folding.floors v)

    later_changes : (p : Place) → AscendAbove f (changes_after (versions_in cells p).changes f)
    later_changes p = AscendAbove-after (floor_in cells p.0) f (versions_in cells p).changes (folding.floors p.0) (folding.ascending p)

    floors_now : (w : ℕ) → floor_in new w ≤ f
    floors_now w =
        elim (eqb w v) as (λ b. eqb w v ≡ b → floor_in new w ≤ f) [
          | true ↦ λ same. subst (λ x. floor_in new x ≤ f) (sym (eqb-true w v same)) (omega (arith, folds.own_floor, folding.floors v))
          | false ↦ λ apart. subst (λ n. n ≤ f) (sym (folds.floors w apart)) (folding.floors w)
        ] refl

    ascending_now : (p : Place) → AscendAbove (floor_in new p.0) (versions_in new p).changes
    ascending_now p =
        elim (eqb p.0 v) as (λ b. eqb p.0 v ≡ b → AscendAbove (floor_in new p.0) (versions_in new p).changes) [
          | true ↦ λ same.
              subst (λ (x : Versions). AscendAbove (floor_in new p.0) x.changes) (sym (own_folded p (eqb-true p.0 v same)))
              (AscendAbove-lower (floor_in new p.0) f (changes_after (versions_in cells p).changes f) (floors_now p.0) (later_changes p))
          | false ↦ λ apart.
              subst (λ n. AscendAbove n (versions_in new p).changes) (sym (folds.floors p.0 apart))
              (subst (λ (x : Versions). AscendAbove (floor_in cells p.0) x.changes) (sym (folds.others p apart)) (folding.ascending p))
        ] refl

    noted_now : (p : Place) → AreNoted rest p.0 (versions_in new p).changes
    noted_now p =
        elim (eqb p.0 v) as (λ b. eqb p.0 v ≡ b → AreNoted rest p.0 (versions_in new p).changes) [
          | true ↦ λ same.
              subst (λ (x : Versions). AreNoted rest p.0 x.changes) (sym (own_folded p (eqb-true p.0 v same)))
              (noted-without a v p.0 rest (changes_after (versions_in cells p).changes f)
              (all-weaker (λ change. f < change.at) (λ change. a < change.at) (λ change later. omega (arith, later, due)) (changes_after (versions_in cells p).changes f)
              (all-above f (changes_after (versions_in cells p).changes f) (later_changes p)))
              (all-changes_after (λ change. IsIn (record { at = change.at; vertex = p.0 }) (record { at = a; vertex = v } ∷ rest)) (versions_in cells p).changes f (folding.noted p)))
          | false ↦ λ apart.
              subst (λ (x : Versions). AreNoted rest p.0 x.changes) (sym (folds.others p apart))
              (noted-other a v p.0 rest (versions_in cells p).changes apart (folding.noted p))
        ] refl

    folded_now : (p : Place) → folded_to f (versions_in new p) ≡ folded_to f (versions_in old p)
    folded_now p =
        elim (eqb p.0 v) as (λ b. eqb p.0 v ≡ b → folded_to f (versions_in new p) ≡ folded_to f (versions_in old p)) [
          | true ↦ λ same. ap (folded_to f) (own_folded p (eqb-true p.0 v same)) ∙ folded_to-twice f (versions_in cells p) ∙ folding.folded p
          | false ↦ λ apart. ap (folded_to f) (folds.others p apart) ∙ folding.folded p
        ] refl

    folding-folded : IsFolding u f old new rest
    folding-folded = record {
      floors = floors_now;
      ascending = ascending_now;
      noted = noted_now;
      rising = folding.rising.1;
      by_last = folding.by_last.1;
      folded = folded_now;
    }

  -- one turn of the loop
  pub folding-turned : (floor_in cells v < f → FoldsCell cells new v f) → (f ≤ floor_in cells v → new ≡ cells) → IsFolding u f old new rest
  folding-turned folds rests =
      elim (nat_le f (floor_in cells v)) as (λ b. nat_le f (floor_in cells v) ≡ b → IsFolding u f old new rest) [
        | true ↦ λ ahead.
            let far : f ≤ floor_in cells v = grind (arith, nat_tests) in
            subst (λ m. IsFolding u f old m rest) (sym (rests far)) (folding-skipped far)
        | false ↦ λ short.
            let near : floor_in cells v < f = grind (arith, nat_tests) in
            folding-folded (folds near)
      ] refl

-- where the first comes later, all do
all-later : (f : ℕ) (touches : List Touch) → begins_by f touches ≡ false → AreRising touches → AllByRecursion (λ touch. f < touch.at) touches
all-later f [] none rising = tt
all-later f (touch ∷ touches) none rising =
    let first : f < touch.at = grind (arith, nat_tests) in
    (first, all-weaker (λ next. touch.at ≤ next.at) (λ next. f < next.at) (λ next more. omega (arith, more, first)) touches rising.0)

-- nothing is left to be folded
module _ (u f : ℕ) (old cells : Cells) (touches : List Touch) (folding : IsFolding u f old cells touches) (none : begins_by f touches ≡ false) where
  left_between : AreBetween f u touches
  left_between = all-both (λ touch. f < touch.at) (λ touch. touch.at ≤ u) touches (all-later f touches none folding.rising) folding.by_last

  pub IsStored-folded : IsStored f u cells touches
  IsStored-folded = record {
    floors = folding.floors;
    ascending = folding.ascending;
    noted = folding.noted;
    rising = folding.rising;
    between = left_between;
  }

  pub versions-folded : (p : Place) → versions_in cells p ≡ folded_to f (versions_in old p)
  versions-folded p =
      sym (folded_to-later f (versions_in cells p)
      (all-weaker (λ change. (f < change.at) × (change.at ≤ u)) (λ change. f < change.at) (λ change both. both.0) (versions_in cells p).changes
      (between-noted f u touches p.0 left_between (versions_in cells p).changes (folding.noted p))))
      ∙ folding.folded p

-- the list gets shorter
pub touches-fewer : (old new : List Touch) (touch : Touch) → old ≡ touch ∷ new → length new < length old
touches-fewer old new touch is = let same = ap length is in omega (arith, same)
