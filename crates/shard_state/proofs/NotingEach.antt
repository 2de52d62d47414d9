-- Changes that are noted one after the other.
use Rattle.std.proofs.Common.{◌≡◌, ◌<◌, ◌≤◌, ◌+◌, ℕ, false, cond, List, [], ◌∷◌, ◌++◌, map as mapped, length, drop, get_or, append_assoc, refl, sym, ap, subst, ◌∙◌, arith}
use Rattle.std.specs.List.{AllByRecursion}
use Rattle.std.specs.List.Sorted.{IsStrictlySortedBy}
use Rattle.std.specs.Ordering.{eq_by_cmp, is_eq}
use Rattle.std.specs.declared.cmp.Ordering.TheVariants.{Less}
use Rattle.std.proofs.lemmas.List.{append-nil, drop_all, drop_more}
use Rattle.shared_lemmas.proofs.Orderings.{Greater-turned}
use Rattle.update_rules.specs.declared.changes.Change.{Change}
use Rattle.update_rules.specs.meaning.Parts.{vertex_of}
use Rattle.update_rules.specs.meaning.Places.{Place, place_cmp}
use Rattle.update_rules.proofs.Places.{place_cmp_total}
use Rattle.version_cell.specs.meaning.Changes.{IsAfterLast}
use Rattle.shard_state.specs.calls.CellChanges.{IsReady, NotesVersion, noted_all}
use Rattle.shard_state.specs.declared.touch.Touch.{Touch}
use Rattle.shard_state.specs.meaning.Shards.{place_of, version_of}
use Rattle.shard_state.specs.meaning.Versions.{with_version}
use Rattle.shard_state.specs.storage.Cells.{Cells, floor_in, versions_in}
use Rattle.shard_state.specs.storage.Touched.{touch_of, touches_of}

-- of all changes the rest is still to be noted
pub record IsNoting (at : ℕ) (old cells : Cells) (listed_before listed : List Touch) (spare : ℕ) (all rest : List Change) : Type 0 where
  pub versions : (p : Place) → noted_all at rest p (versions_in cells p) ≡ noted_all at all p (versions_in old p)
  pub floors : (v : ℕ) → floor_in cells v ≡ floor_in old v
  pub touches : listed ++ touches_of at rest ≡ listed_before ++ touches_of at all
  pub ready : AllByRecursion (IsReady cells at) rest
  pub ascending : IsStrictlySortedBy place_cmp (mapped place_of rest)
  pub room : length rest ≤ spare

pub noting-init : (at : ℕ) (cells : Cells) (touches : List Touch) (room : ℕ) (changes : List Change) → AllByRecursion (IsReady cells at) changes → IsStrictlySortedBy place_cmp (mapped place_of changes) → length changes ≤ room →
    IsNoting at cells cells touches touches room changes changes
noting-init at cells touches room changes ready ascending enough = record {
  versions = λ p. refl;
  floors = λ v. refl;
  touches = refl;
  ready = ready;
  ascending = ascending;
  room = enough;
}

-- those at later places stay ready
ready-later : (at : ℕ) (cells new : Cells) (change : Change) → NotesVersion cells new (place_of change) (version_of at change) → (rest : List Change) →
    AllByRecursion (λ q. place_cmp (place_of change) q ≡ Less) (mapped place_of rest) → AllByRecursion (IsReady cells at) rest → AllByRecursion (IsReady new at) rest
ready-later at cells new change notes [] below ready = tt
ready-later at cells new change notes (next ∷ rest) below ready =
    let apart : eq_by_cmp place_cmp (place_of next) (place_of change) ≡ false = ap is_eq (Greater-turned place_cmp_total (place_of change) (place_of next) below.0) in
    let same : versions_in new (place_of next) ≡ versions_in cells (place_of next) =
    notes.versions (place_of next) ∙ ap (λ b. cond b (with_version (versions_in cells (place_of next)) (version_of at change)) (versions_in cells (place_of next))) apart in (
      record {
        room = subst (λ n. 0 < n) (sym (notes.room (place_of next) apart)) ready.0.room;
        above = subst (λ n. n < at) (sym (notes.floors (vertex_of next))) ready.0.above;
        later = subst (λ x. IsAfterLast x.changes at) (sym same) ready.0.later;
      },
      ready-later at cells new change notes rest below.1 ready.1,
    )

module _ (at : ℕ) (old cells new : Cells) (old_touches touches touched : List Touch) (room left : ℕ) (all rest : List Change) (change : Change)
    (noting : IsNoting at old cells old_touches touches room all (change ∷ rest)) where
  pub noting-step : NotesVersion cells new (place_of change) (version_of at change) → touched ≡ touches ++ touch_of at change ∷ [] → left + 1 ≡ room → IsNoting at old new old_touches touched left all rest
  unfolding IsStrictlySortedBy
  noting-step notes more less = record {
    versions = λ p. ap (noted_all at rest p) (notes.versions p) ∙ noting.versions p;
    floors = λ v. notes.floors v ∙ noting.floors v;
    touches = ap (λ ts. ts ++ touches_of at rest) more ∙ append_assoc touches (touch_of at change ∷ []) (touches_of at rest) ∙ noting.touches;
    ready = ready-later at cells new change notes rest noting.ascending.0 noting.ready.1;
    ascending = noting.ascending.1;
    room = omega (arith, noting.room, less);
  }

-- the change at a place is the first of the rest
module _ (at : ℕ) (old cells : Cells) (old_touches touches : List Touch) (room : ℕ) (changes : List Change) (i : ℕ) (change : Change) (within : i < length changes) (is : change ≡ get_or changes i change) where
  pub noting-at : IsNoting at old cells old_touches touches room changes (drop i changes) → IsNoting at old cells old_touches touches room changes (change ∷ drop (i + 1) changes)
  noting-at noting = subst (IsNoting at old cells old_touches touches room changes) (drop_more changes i change within ∙ ap (λ x. x ∷ drop (i + 1) changes) (sym is)) noting

  pub noting-ready : IsNoting at old cells old_touches touches room changes (drop i changes) → IsReady cells at change
  noting-ready noting = (noting-at noting).ready.0

  pub noting-room : IsNoting at old cells old_touches touches room changes (drop i changes) → 0 < room
  noting-room noting = omega (arith, (noting-at noting).room)

-- nothing is left to be noted
module _ (at : ℕ) (old cells : Cells) (old_touches touches : List Touch) (room : ℕ) (changes : List Change) (i : ℕ) (over : length changes ≤ i) (noting : IsNoting at old cells old_touches touches room changes (drop i changes)) where
  all-noted : IsNoting at old cells old_touches touches room changes []
  all-noted = subst (IsNoting at old cells old_touches touches room changes) (drop_all i changes over) noting

  pub noted-versions_in : (p : Place) → versions_in cells p ≡ noted_all at changes p (versions_in old p)
  noted-versions_in = all-noted.versions

  pub noted-floors : (v : ℕ) → floor_in cells v ≡ floor_in old v
  noted-floors = all-noted.floors

  pub noted-touches : touches ≡ old_touches ++ touches_of at changes
  noted-touches = sym (append-nil touches) ∙ all-noted.touches
