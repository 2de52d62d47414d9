-- What a shard stores and tells, after its calls.
use Rattle.std.proofs.Common.{◌≡◌, ◌<◌, ◌≤◌, ◌+◌, ℕ, List, [], ◌∷◌, ◌++◌, length, take, get_or, Result, Ok, Err, OnErr, sym, ap, subst, ◌∙◌, arith}
use Rattle.std.specs.FinMap as map
use Rattle.std.specs.Ordering.{nat_cmp}
use Rattle.std.specs.List.{AllByRecursion}
use Rattle.std.proofs.lemmas.List.{take_all, take_more}
use Rattle.shared_lemmas.proofs.Claims.{all-append, all-weaker}
use Rattle.update_rules.specs.declared.changes.Change.{Change}
use Rattle.update_rules.specs.meaning.Parts.{vertex_of}
use Rattle.update_rules.specs.meaning.Places.{Place}
use Rattle.version_cell.specs.meaning.Cell.{Timeline}
use Rattle.version_cell.specs.meaning.Floor.{AscendAbove}
use Rattle.shard_state.specs.calls.CellChanges.{IsReady, KeepsEntries, noted_all}
use Rattle.shard_state.specs.declared.touch.Touch.{Touch}
use Rattle.shard_state.specs.meaning.Shards.{folded_entries, place_of, with_changes}
use Rattle.shard_state.specs.meaning.Versions.{Versions, folded_to, no_versions}
use Rattle.shard_state.specs.storage.Cells.{Cells, entries_of, floor_in, floor_known, room_in, versions_in, versions_known}
use Rattle.shard_state.specs.storage.Touched.{AreBetween, AreNoted, AreRising, IsStored}
use Rattle.shard_state.proofs.CellEntries.{Know-entries_of}
use Rattle.shard_state.proofs.Knowing.{Know-alike, Know-changed, Know-empty, Know-folded, same_entries}
use Rattle.shard_state.proofs.Storing.{after-last}

-- nothing is stored

none-known : (p : Place) → versions_in map.empty p ≡ no_versions
none-known p = ap (λ o. versions_known o p.1) (map.get-empty {X = Timeline} nat_cmp p.0)

pub entries-empty_cells : (cells : Cells) → cells ≡ map.empty → entries_of cells ≡ map.empty
entries-empty_cells cells none =
    same_entries (entries_of cells) map.empty (λ _. no_versions)
    (Know-alike (entries_of cells) (versions_in cells) (λ _. no_versions) (Know-entries_of cells) (λ p. sym (ap (λ m. versions_in m p) none ∙ none-known p)))
    Know-empty

pub IsStored-empty : (cells : Cells) (touches : List Touch) → cells ≡ map.empty → touches ≡ [] → IsStored 0 0 cells touches
IsStored-empty cells touches none no_touches =
    let versions : (p : Place) → versions_in cells p ≡ no_versions = λ p. ap (λ m. versions_in m p) none ∙ none-known p in
    let floors : (v : ℕ) → floor_in cells v ≡ 0 = λ v. ap (λ m. floor_in m v) none ∙ ap floor_known (map.get-empty {X = Timeline} nat_cmp v) in
    record {
      floors = λ v. omega (arith, floors v);
      ascending = λ p. subst (λ (x : Versions). AscendAbove (floor_in cells p.0) x.changes) (sym (versions p)) tt;
      noted = λ p. subst (λ (x : Versions). AreNoted touches p.0 x.changes) (sym (versions p)) tt;
      rising = subst AreRising (sym no_touches) tt;
      between = subst (AreBetween 0 0) (sym no_touches) tt;
    }

-- the same versions are stored

pub entries-kept : (cells new : Cells) → KeepsEntries cells new → entries_of new ≡ entries_of cells
entries-kept cells new keeps =
    same_entries (entries_of new) (entries_of cells) (versions_in cells)
    (Know-alike (entries_of new) (versions_in new) (versions_in cells) (Know-entries_of new) (λ p. sym (keeps.versions p)))
    (Know-entries_of cells)

pub IsStored-kept : (f u : ℕ) (cells new : Cells) (touches touched : List Touch) → KeepsEntries cells new → touched ≡ touches → IsStored f u cells touches → IsStored f u new touched
IsStored-kept f u cells new touches touched keeps same stored =
    subst (IsStored f u new) (sym same) (record {
      floors = λ v. subst (λ n. n ≤ f) (sym (keeps.floors v)) (stored.floors v);
      ascending = λ p. subst (λ n. AscendAbove n (versions_in new p).changes) (sym (keeps.floors p.0)) (subst (λ (x : Versions). AscendAbove (floor_in cells p.0) x.changes) (sym (keeps.versions p)) (stored.ascending p));
      noted = λ p. subst (λ (x : Versions). AreNoted touches p.0 x.changes) (sym (keeps.versions p)) (stored.noted p);
      rising = stored.rising;
      between = stored.between;
    })

-- some changes more

pub entries-changed : (at : ℕ) (changes : List Change) (cells new : Cells) → ((p : Place) → versions_in new p ≡ noted_all at changes p (versions_in cells p)) → entries_of new ≡ with_changes at (entries_of cells) changes
entries-changed at changes cells new versions =
    same_entries (entries_of new) (with_changes at (entries_of cells) changes) (λ p. noted_all at changes p (versions_in cells p))
    (Know-alike (entries_of new) (versions_in new) (λ p. noted_all at changes p (versions_in cells p)) (Know-entries_of new) (λ p. sym (versions p)))
    (Know-changed at changes (entries_of cells) (versions_in cells) (Know-entries_of cells))

pub all-ready : (f u at : ℕ) (cells : Cells) (touches : List Touch) → IsStored f u cells touches → f < at → u < at → (changes : List Change) → AllByRecursion (λ change. 0 < room_in cells (place_of change)) changes → AllByRecursion (IsReady cells at) changes
all-ready f u at cells touches stored above later [] room = tt
all-ready f u at cells touches stored above later (change ∷ changes) room = (
  record {
    room = room.0;
    above = omega (arith, stored.floors (vertex_of change), above);
    later = after-last f u cells touches stored (place_of change) at later;
  },
  all-ready f u at cells touches stored above later changes room.1,
)

-- folded

pub entries-folded : (f : ℕ) (cells new : Cells) → ((p : Place) → versions_in new p ≡ folded_to f (versions_in cells p)) → entries_of new ≡ folded_entries f (entries_of cells)
entries-folded f cells new versions =
    same_entries (entries_of new) (folded_entries f (entries_of cells)) (λ p. folded_to f (versions_in cells p))
    (Know-alike (entries_of new) (versions_in new) (λ p. folded_to f (versions_in cells p)) (Know-entries_of new) (λ p. sym (versions p)))
    (Know-folded f (entries_of cells) (versions_in cells) (Know-entries_of cells))

-- room for some changes, one after the other

abbrev pub HaveRoom : Cells → List Change → Type 0
HaveRoom cells changes = AllByRecursion (λ change. 0 < room_in cells (place_of change)) changes

pub room-more : (cells new : Cells) (changes : List Change) (i : ℕ) (change : Change) → i < length changes → change ≡ get_or changes i change → KeepsEntries cells new →
    HaveRoom cells (take i changes) → 0 < room_in new (place_of change) → HaveRoom new (take (i + 1) changes)
room-more cells new changes i change within is keeps room own =
    subst (HaveRoom new) (sym (take_more changes i change within ∙ ap (λ x. take i changes ++ x ∷ []) (sym is)))
    (all-append (λ c. 0 < room_in new (place_of c)) (take i changes) (change ∷ [])
    (all-weaker (λ c. 0 < room_in cells (place_of c)) (λ c. 0 < room_in new (place_of c)) (λ c some. omega (arith, some, keeps.room (place_of c))) (take i changes) room) (own, tt))

pub room-all : (cells : Cells) (changes : List Change) (i : ℕ) → length changes ≤ i → HaveRoom cells (take i changes) → HaveRoom cells changes
room-all cells changes i over room = subst (HaveRoom cells) (take_all i changes over) room

-- what is true is true where there is an error
pub on_err : {T E : Type 0} (r : Result T E) (P : Type 0) → P → OnErr r P
on_err (Ok value) P p = tt
on_err (Err error) P p = p
