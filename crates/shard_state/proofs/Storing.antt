-- What is stored of a shard, after some changes are noted.
use Rattle.std.proofs.Common.{◌≡◌, ◌<◌, ◌≤◌, ◌+◌, ⊎_elim, ℕ, List, [], ◌∷◌, ◌++◌, map as mapped, sym, ap, subst, ◌∙◌, arith}
use Rattle.std.specs.List.{AllByRecursion}
use Rattle.std.specs.List.Sorted.{IsStrictlySortedBy}
use Rattle.shared_lemmas.specs.meaning.Membership.{IsIn}
use Rattle.shared_lemmas.proofs.Claims.{all-append, all-weaker}
use Rattle.shared_lemmas.proofs.Membership.{IsIn-append_left, IsIn-append_right, IsIn-map, all-at}
use Rattle.update_rules.specs.declared.changes.Change.{Change}
use Rattle.update_rules.specs.meaning.Places.{Place, place_cmp}
use Rattle.version_cell.specs.declared.change.Change.{Change as Version}
use Rattle.version_cell.specs.meaning.Changes.{IsAfterLast}
use Rattle.version_cell.specs.meaning.Floor.{AscendAbove}
use Rattle.version_cell.proofs.AboveFloor.{AscendAbove-with_change}
use Rattle.shard_state.specs.calls.CellChanges.{noted_all}
use Rattle.shard_state.specs.declared.touch.Touch.{Touch}
use Rattle.shard_state.specs.meaning.Shards.{IsInOrder, place_of, version_of}
use Rattle.shard_state.specs.meaning.Versions.{Versions}
use Rattle.shard_state.specs.storage.Cells.{Cells, entries_of, floor_in, versions_in}
use Rattle.shard_state.specs.storage.Touched.{AreBetween, AreNoted, AreRising, IsStored, touch_of, touches_of}
use Rattle.shard_state.proofs.CellEntries.{Know-entries_of}
use Rattle.shard_state.proofs.CellSteps.{vertex-place_of}
use Rattle.shard_state.proofs.Histories.{AscendAbove-from}
use Rattle.shard_state.proofs.Knowing.{versions_of-known}
use Rattle.shard_state.proofs.Noting.{noted_cases}

-- each change comes after f, and by u
abbrev pub ComeBetween : ℕ → ℕ → List Version → Type 0
ComeBetween f u changes = AllByRecursion (λ change. (f < change.at) × (change.at ≤ u)) changes

pub between-noted : (f u : ℕ) (touches : List Touch) (v : ℕ) → AreBetween f u touches → (changes : List Version) → AreNoted touches v changes → ComeBetween f u changes
between-noted f u touches v between [] noted = tt
between-noted f u touches v between (change ∷ changes) noted =
    (all-at (λ touch. (f < touch.at) × (touch.at ≤ u)) (record { at = change.at; vertex = v }) touches between noted.0, between-noted f u touches v between changes noted.1)

pub IsAfterLast-between : (f u t : ℕ) → u < t → (changes : List Version) → ComeBetween f u changes → IsAfterLast changes t
IsAfterLast-between f u t later [] between = tt
IsAfterLast-between f u t later (change ∷ changes) between = let last : change.at ≤ u = between.0.1 in (omega arith, IsAfterLast-between f u t later changes between.1)

module _ (f u : ℕ) (cells : Cells) (touches : List Touch) (stored : IsStored f u cells touches) where
  pub come-between : (p : Place) → ComeBetween f u (versions_in cells p).changes
  come-between p = between-noted f u touches p.0 stored.between (versions_in cells p).changes (stored.noted p)

  pub after-last : (p : Place) (t : ℕ) → u < t → IsAfterLast (versions_in cells p).changes t
  after-last p t later = IsAfterLast-between f u t later (versions_in cells p).changes (come-between p)

  above_floor : (p : Place) → AscendAbove f (versions_in cells p).changes
  above_floor p =
      AscendAbove-from (floor_in cells p.0) f (versions_in cells p).changes (stored.ascending p)
      (all-weaker (λ change. (f < change.at) × (change.at ≤ u)) (λ change. f < change.at) (λ change both. both.0) (versions_in cells p).changes (come-between p))

  -- what a shard with these cells tells is in order
  pub IsInOrder-stored : (number shards : ℕ) → IsInOrder (record { number = number; shards = shards; upto = u; floor = f; entries = entries_of cells })
  IsInOrder-stored number shards =
      let known = versions_of-known (entries_of cells) (versions_in cells) (Know-entries_of cells) in
      let next : u < u + 1 = omega arith in
      record {
        above = λ p. subst (λ x. AscendAbove f x.changes) (sym (known p)) (above_floor p);
        by_last = λ p. subst (λ x. IsAfterLast x.changes (u + 1)) (sym (known p)) (after-last p (u + 1) next);
      }

-- the list of what changed, with some changes more

all-touches : (P : Touch → Type 0) (at : ℕ) → ((v : ℕ) → P (record { at = at; vertex = v })) → (changes : List Change) → AllByRecursion P (touches_of at changes)
all-touches P at each [] = tt
all-touches P at each (change ∷ changes) = (each _, all-touches P at each changes)

rising-touches : (at : ℕ) (changes : List Change) → AreRising (touches_of at changes)
rising-touches at [] = tt
rising-touches at (change ∷ changes) = (all-touches (λ next. at ≤ next.at) at (λ v. omega arith) changes, rising-touches at changes)

rising-more : (f u at : ℕ) → u < at → (touches : List Touch) (changes : List Change) → AreBetween f u touches → AreRising touches → AreRising (touches ++ touches_of at changes)
rising-more f u at later [] changes between rising = rising-touches at changes
rising-more f u at later (touch ∷ touches) changes between rising =
    let last : touch.at ≤ u = between.0.1 in (
      all-append (λ next. touch.at ≤ next.at) touches (touches_of at changes) rising.0 (all-touches (λ next. touch.at ≤ next.at) at (λ v. omega arith) changes),
      rising-more f u at later touches changes between.1 rising.1,
    )

noted-more : (touches more : List Touch) (v : ℕ) (changes : List Version) → AreNoted touches v changes → AreNoted (touches ++ more) v changes
noted-more touches more v [] noted = tt
noted-more touches more v (change ∷ changes) noted = (IsIn-append_left (record { at = change.at; vertex = v }) touches more noted.0, noted-more touches more v changes noted.1)

module _ (f u at : ℕ) (cells new : Cells) (touches : List Touch) (changes : List Change) (stored : IsStored f u cells touches) (later : u < at) (above : f < at)
    (ascending : IsStrictlySortedBy place_cmp (mapped place_of changes))
    (versions : (p : Place) → versions_in new p ≡ noted_all at changes p (versions_in cells p)) (floors : (v : ℕ) → floor_in new v ≡ floor_in cells v) where
  floor_below : (p : Place) → floor_in cells p.0 < at
  floor_below p = omega (arith, stored.floors p.0, above)

  ascend_now : (p : Place) → AscendAbove (floor_in cells p.0) (noted_all at changes p (versions_in cells p)).changes
  ascend_now p =
      ⊎_elim (λ none. subst (λ (x : Versions). AscendAbove (floor_in cells p.0) x.changes) (sym none) (stored.ascending p))
      (λ once. subst (λ (x : Versions). AscendAbove (floor_in cells p.0) x.changes) (sym once.noted)
      (AscendAbove-with_change (floor_in cells p.0) (versions_in cells p).changes (version_of at once.change) (stored.ascending p) (floor_below p) (after-last f u cells touches stored p at later)))
      (noted_cases at changes ascending p (versions_in cells p))

  noted_now : (p : Place) → AreNoted (touches ++ touches_of at changes) p.0 (noted_all at changes p (versions_in cells p)).changes
  noted_now p =
      let old = noted-more touches (touches_of at changes) p.0 (versions_in cells p).changes (stored.noted p) in
      ⊎_elim (λ none. subst (λ (x : Versions). AreNoted (touches ++ touches_of at changes) p.0 x.changes) (sym none) old)
      (λ once. subst (λ (x : Versions). AreNoted (touches ++ touches_of at changes) p.0 x.changes) (sym once.noted)
      (all-append (λ change. IsIn (record { at = change.at; vertex = p.0 }) (touches ++ touches_of at changes)) (versions_in cells p).changes (version_of at once.change ∷ []) old (
        IsIn-append_right (record { at = at; vertex = p.0 }) touches (touches_of at changes)
            (subst (λ v. IsIn (record { at = at; vertex = v }) (touches_of at changes)) (sym (vertex-place_of once.change) ∙ ap (λ q. q.0) once.place) (IsIn-map (touch_of at) once.change changes once.among)),
        tt,
      )))
      (noted_cases at changes ascending p (versions_in cells p))

  pub IsStored-noted : IsStored f at new (touches ++ touches_of at changes)
  IsStored-noted = record {
    floors = λ v. subst (λ n. n ≤ f) (sym (floors v)) (stored.floors v);
    ascending = λ p. subst (λ n. AscendAbove n (versions_in new p).changes) (sym (floors p.0)) (subst (λ (x : Versions). AscendAbove (floor_in cells p.0) x.changes) (sym (versions p)) (ascend_now p));
    noted = λ p. subst (λ (x : Versions). AreNoted (touches ++ touches_of at changes) p.0 x.changes) (sym (versions p)) (noted_now p);
    rising = rising-more f u at later touches changes stored.between stored.rising;
    between =
        all-append (λ touch. (f < touch.at) × (touch.at ≤ at)) touches (touches_of at changes)
        (all-weaker (λ touch. (f < touch.at) × (touch.at ≤ u)) (λ touch. (f < touch.at) × (touch.at ≤ at)) (λ touch both. (both.0, omega (arith, both.1, later))) touches stored.between)
        (all-touches (λ touch. (f < touch.at) × (touch.at ≤ at)) at (λ v. (above, omega arith)) changes);
  }
