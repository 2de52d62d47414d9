-- What is known of each entry after a step of one cell.
use Rattle.std.proofs.Common.{◌≡◌, ◌≤◌, ◌<◌, ◌%◌, ℕ, true, false, cond, eqb, [], max, IfSome, Option, None, Some, refl, sym, ap, subst, ◌∙◌, arith}
use Rattle.std.specs.Cmp.{nat_cmp_total, tied_itself}
use Rattle.std.specs.FinMap as map
use Rattle.std.specs.Option.{option_cmp}
use Rattle.std.specs.Ordering.{eq_by_cmp, is_eq, nat_cmp, ordering_then}
use Rattle.std.specs.declared.cmp.Ordering.TheVariants.{Less, Equal, Greater}
use Rattle.std.proofs.lemmas.Bool.{eqb-true, false≢true}
use Rattle.graph_types.proofs.Rows.{nat-test}
use Rattle.shared_lemmas.proofs.Orderings.{same_item}
use Rattle.update_rules.specs.declared.changes.Change.{Change}
use Rattle.update_rules.specs.declared.changes.Change.TheVariants.{Label, Near}
use Rattle.update_rules.specs.meaning.Parts.{vertex_of}
use Rattle.update_rules.specs.meaning.Places.{Place, place_cmp}
use Rattle.version_cell.specs.calls.Changing.{IsFolded, KeepsVersions}
use Rattle.version_cell.specs.meaning.Cell.{HasNothing, Timeline, changes_of, room_of}
use Rattle.version_cell.specs.declared.change.Change.{Change as Version}
use Rattle.version_cell.specs.meaning.Changes.{Track, with_change}
use Rattle.version_cell.proofs.Labels.{near-neighbourhood_after}
use Rattle.shard_state.specs.calls.CellChanges.{FoldsCell, KeepsEntries, NotesVersion, noted_at, noted_in_cell}
use Rattle.shard_state.specs.meaning.Shards.{place_of, version_of}
use Rattle.shard_state.specs.meaning.Versions.{Versions, folded_to, no_versions, with_version}
use Rattle.shard_state.specs.declared.class.Class.{Class}
use Rattle.shard_state.specs.storage.Cells.{Cells, floor_in, floor_known, room_in, room_in_cell, room_known, versions_in, versions_in_cell, versions_known}
use Rattle.shard_state.specs.storage.KeyedCells.{Owns, cells_of}
use Rattle.shard_state.specs.storage.Keys.{key_of}
use Rattle.shard_state.proofs.CellKeys.{cells-insert, cells-remove, get-foreign, get-owned}

-- the vertex of a changed entry is that of its place
pub vertex-place_of : (change : Change) → (place_of change).0 ≡ vertex_of change
vertex-place_of (Label v now) = refl
vertex-place_of (Near v to now) = refl

-- a new cell knows nothing
pub fresh-versions : (cell : Timeline) → cell.at_floor ≡ record { label = None; near = map.empty } → cell.label.changes ≡ [] → cell.near ≡ map.empty → (to : Option ℕ) → versions_in_cell cell to ≡ no_versions
fresh-versions cell at_floor label near None = λ i. record { at_floor = (at_floor i).label; changes = label i }
fresh-versions cell at_floor label near (Some w) = λ i. record {
  at_floor = (ap (λ n. map.get n.near w) at_floor ∙ map.get-empty {X = ℕ} nat_cmp w) i;
  changes = (ap (λ m. changes_of (map.get m w)) near ∙ ap changes_of (map.get-empty {X = Track} nat_cmp w)) i;
}

-- what is kept in a cell
pub kept-versions : (old new : Timeline) → KeepsVersions old new → (to : Option ℕ) → versions_in_cell new to ≡ versions_in_cell old to
kept-versions old new keeps None = λ i. record { at_floor = (keeps.at_floor i).label; changes = keeps.label i }
kept-versions old new keeps (Some w) = λ i. record { at_floor = map.get (keeps.at_floor i).near w; changes = keeps.near w i }

pub kept-room : (old new : Timeline) → KeepsVersions old new → (to : Option ℕ) → room_in_cell old to ≤ room_in_cell new to
kept-room old new keeps None = keeps.label_room
kept-room old new keeps (Some w) = keeps.near_room w

-- what a fold leaves in a cell
pub folded-versions : (old new : Timeline) (f : ℕ) → IsFolded old f new → (to : Option ℕ) → versions_in_cell new to ≡ folded_to (max old.floor f) (versions_in_cell old to)
folded-versions old new f folded None = λ i. record { at_floor = (folded.at_floor i).label; changes = folded.label i }
folded-versions old new f folded (Some w) = λ i. record {
  at_floor = (ap (λ n. map.get n.near w) folded.at_floor ∙ near-neighbourhood_after old (max old.floor f) w) i;
  changes = folded.near w i;
}

-- places of one vertex
place-test : (v : ℕ) (a b : Option ℕ) → eq_by_cmp place_cmp (v, a) (v, b) ≡ is_eq (option_cmp nat_cmp a b)
place-test v a b = ap (λ r. is_eq (ordering_then r (option_cmp nat_cmp a b))) (tied_itself nat_cmp_total v)

-- the versions of the edge to w, where its changes are these
abbrev versions_with : Timeline → ℕ → Option Track → Versions
versions_with cell w track = record { at_floor = map.get cell.at_floor.near w; changes = changes_of track }

-- the changes of the edge to w, with one more
abbrev noted_track : Timeline → ℕ → Version → Track
noted_track cell w change = with_change (record { changes = changes_of (map.get cell.near w); room = room_of (map.get cell.near w) }) change

-- what one change more leaves in a cell
pub noted-versions : (at : ℕ) (change : Change) (cell : Timeline) (to : Option ℕ) →
    versions_in_cell (noted_in_cell at change cell) to ≡ noted_at (place_of change) (version_of at change) ((place_of change).0, to) (versions_in_cell cell to)
noted-versions at (Label v now) cell None = ap (λ b. cond b (with_version (versions_in_cell cell None) (record { at = at; label = now })) (versions_in_cell cell None)) (sym (place-test v None None))
noted-versions at (Label v now) cell (Some w) = ap (λ b. cond b (with_version (versions_in_cell cell (Some w)) (record { at = at; label = now })) (versions_in_cell cell (Some w))) (sym (place-test v (Some w) None))
noted-versions at (Near v x now) cell None = ap (λ b. cond b (with_version (versions_in_cell cell None) (record { at = at; label = now })) (versions_in_cell cell None)) (sym (place-test v None (Some x)))
noted-versions at (Near v x now) cell (Some w) =
    let track = noted_track cell x (record { at = at; label = now }) in
    ap (versions_with cell w) (map.get-insert nat_cmp_total cell.near x track w)
    ∙ elim (eq_by_cmp nat_cmp w x) as (λ b. eq_by_cmp nat_cmp w x ≡ b →
    versions_with cell w (cond b (Some track) (map.get cell.near w)) ≡ cond b (with_version (versions_in_cell cell (Some w)) (record { at = at; label = now })) (versions_in_cell cell (Some w))) [
      | true ↦ λ same. ap (λ u. with_version (versions_with cell w (map.get cell.near u)) (record { at = at; label = now })) (sym (same_item map.nat_cmp-IsAntisymmetric w x same))
      | false ↦ λ _. refl
    ] refl
    ∙ ap (λ b. cond b (with_version (versions_in_cell cell (Some w)) (record { at = at; label = now })) (versions_in_cell cell (Some w))) (sym (place-test v (Some w) (Some x)))

-- the room of the others stays, and so does the floor
noted-room : (at : ℕ) (change : Change) (cell : Timeline) (to : Option ℕ) → eq_by_cmp place_cmp ((place_of change).0, to) (place_of change) ≡ false → room_in_cell (noted_in_cell at change cell) to ≡ room_in_cell cell to
noted-room at (Label v now) cell None apart = absurd (false≢true (sym apart ∙ place-test v None None))
noted-room at (Label v now) cell (Some w) apart = refl
noted-room at (Near v x now) cell None apart = refl
noted-room at (Near v x now) cell (Some w) apart =
    let track = noted_track cell x (record { at = at; label = now }) in
    ap room_of (map.get-insert nat_cmp_total cell.near x track w) ∙ ap (λ b. room_of (cond b (Some track) (map.get cell.near w))) (sym (place-test v (Some w) (Some x)) ∙ apart)

noted-floor : (at : ℕ) (change : Change) (cell : Timeline) → (noted_in_cell at change cell).floor ≡ cell.floor
noted-floor at (Label v now) cell = refl
noted-floor at (Near v x now) cell = refl

-- places of different vertices
apart-place : (p q : Place) → eq_by_cmp nat_cmp p.0 q.0 ≡ false → eq_by_cmp place_cmp p q ≡ false
apart-place p q apart =
    elim (nat_cmp p.0 q.0) as (λ r. is_eq r ≡ false → is_eq (ordering_then r (option_cmp nat_cmp p.1 q.1)) ≡ false) [
      | Less ↦ λ _. refl
      | Equal ↦ λ other. absurd (false≢true (sym other))
      | Greater ↦ λ _. refl
    ] apart

-- one cell is put in
module _ (cells : Cells) (v : ℕ) (cell : Timeline) where
  versions-put : (p : Place) → versions_in (map.insert cells v cell) p ≡ cond (eq_by_cmp nat_cmp p.0 v) (versions_in_cell cell p.1) (versions_in cells p)
  versions-put p =
      ap (λ o. versions_known o p.1) (map.get-insert nat_cmp_total cells v cell p.0)
      ∙ elim (eq_by_cmp nat_cmp p.0 v) as (λ b. versions_known (cond b (Some cell) (map.get cells p.0)) p.1 ≡ cond b (versions_in_cell cell p.1) (versions_in cells p)) [ true ↦ refl | false ↦ refl ]

  room-put : (p : Place) → room_in (map.insert cells v cell) p ≡ cond (eq_by_cmp nat_cmp p.0 v) (room_in_cell cell p.1) (room_in cells p)
  room-put p =
      ap (λ o. room_known o p.1) (map.get-insert nat_cmp_total cells v cell p.0)
      ∙ elim (eq_by_cmp nat_cmp p.0 v) as (λ b. room_known (cond b (Some cell) (map.get cells p.0)) p.1 ≡ cond b (room_in_cell cell p.1) (room_in cells p)) [ true ↦ refl | false ↦ refl ]

  floor-put : (w : ℕ) → floor_in (map.insert cells v cell) w ≡ cond (eq_by_cmp nat_cmp w v) cell.floor (floor_in cells w)
  floor-put w =
      ap floor_known (map.get-insert nat_cmp_total cells v cell w)
      ∙ elim (eq_by_cmp nat_cmp w v) as (λ b. floor_known (cond b (Some cell) (map.get cells w)) ≡ cond b cell.floor (floor_in cells w)) [ true ↦ refl | false ↦ refl ]

  -- it knows the same as what was there
  pub KeepsEntries-put : ((to : Option ℕ) → versions_in_cell cell to ≡ versions_in cells (v, to)) → ((to : Option ℕ) → room_in cells (v, to) ≤ room_in_cell cell to) → cell.floor ≡ floor_in cells v →
      KeepsEntries cells (map.insert cells v cell)
  KeepsEntries-put versions room floor = record {
    versions = λ p. versions-put p ∙ elim (eq_by_cmp nat_cmp p.0 v) as (λ b. eq_by_cmp nat_cmp p.0 v ≡ b → cond b (versions_in_cell cell p.1) (versions_in cells p) ≡ versions_in cells p) [
      | true ↦ λ same. versions p.1 ∙ ap (λ u. versions_in cells (u, p.1)) (sym (same_item map.nat_cmp-IsAntisymmetric p.0 v same))
      | false ↦ λ _. refl
    ] refl;
    room = λ p. subst (λ n. room_in cells p ≤ n) (sym (room-put p)) (elim (eq_by_cmp nat_cmp p.0 v) as (λ b. eq_by_cmp nat_cmp p.0 v ≡ b → room_in cells p ≤ cond b (room_in_cell cell p.1) (room_in cells p)) [
      | true ↦ λ same. subst (λ u. room_in cells (u, p.1) ≤ room_in_cell cell p.1) (sym (same_item map.nat_cmp-IsAntisymmetric p.0 v same)) (room p.1)
      | false ↦ λ _. omega arith
    ] refl);
    floors = λ w. floor-put w ∙ elim (eq_by_cmp nat_cmp w v) as (λ b. eq_by_cmp nat_cmp w v ≡ b → cond b cell.floor (floor_in cells w) ≡ floor_in cells w) [
      | true ↦ λ same. floor ∙ ap (floor_in cells) (sym (same_item map.nat_cmp-IsAntisymmetric w v same))
      | false ↦ λ _. refl
    ] refl;
  }

pub KeepsEntries-itself : (cells : Cells) → KeepsEntries cells cells
KeepsEntries-itself cells = record { versions = λ p. refl; room = λ p. omega arith; floors = λ v. refl }

pub KeepsEntries-same : (old new : Cells) → new ≡ old → KeepsEntries old new
KeepsEntries-same old new same = subst (KeepsEntries old) (sym same) (KeepsEntries-itself old)

pub KeepsEntries-then : (a b c : Cells) → KeepsEntries a b → KeepsEntries b c → KeepsEntries a c
KeepsEntries-then a b c first second = record {
  versions = λ p. second.versions p ∙ first.versions p;
  room = λ p. omega (arith, first.room p, second.room p);
  floors = λ v. second.floors v ∙ first.floors v;
}

pub get-inserted : (cells : Cells) (v : ℕ) (cell : Timeline) → map.get (map.insert cells v cell) v ≡ Some cell
get-inserted cells v cell = map.get-insert nat_cmp_total cells v cell v ∙ ap (λ r. cond (is_eq r) (Some cell) (map.get cells v)) (tied_itself nat_cmp_total v)

-- a cell that is there is changed
module _ (cells : Cells) (v : ℕ) (old new : Timeline) (was : map.get cells v ≡ Some old) where
  pub KeepsEntries-kept : KeepsVersions old new → KeepsEntries cells (map.insert cells v new)
  KeepsEntries-kept keeps =
      KeepsEntries-put cells v new
      (λ to. kept-versions old new keeps to ∙ ap (λ o. versions_known o to) (sym was))
      (λ to. subst (λ o. room_known o to ≤ room_in_cell new to) (sym was) (kept-room old new keeps to))
      (keeps.floor ∙ ap floor_known (sym was))

  pub NotesVersion-noted : (at : ℕ) (change : Change) → vertex_of change ≡ v → new ≡ noted_in_cell at change old → NotesVersion cells (map.insert cells v new) (place_of change) (version_of at change)
  NotesVersion-noted at change own noted =
      let of_v : (place_of change).0 ≡ v = vertex-place_of change ∙ own in
      record {
        versions = λ p. versions-put cells v new p ∙ elim (eq_by_cmp nat_cmp p.0 v) as (λ b. eq_by_cmp nat_cmp p.0 v ≡ b →
            cond b (versions_in_cell new p.1) (versions_in cells p) ≡ noted_at (place_of change) (version_of at change) p (versions_in cells p)) [
              | true ↦ λ same.
                  let here : v ≡ p.0 = sym (same_item map.nat_cmp-IsAntisymmetric p.0 v same) in
                  ap (λ c. versions_in_cell c p.1) noted
                  ∙ noted-versions at change old p.1
                  ∙ (λ i. noted_at (place_of change) (version_of at change) ((of_v ∙ here) i, p.1) (versions_known (sym was i) p.1))
                  ∙ ap (λ u. noted_at (place_of change) (version_of at change) p (versions_in cells (u, p.1))) here
              | false ↦ λ apart.
                  ap (λ b. cond b (with_version (versions_in cells p) (version_of at change)) (versions_in cells p))
                  (sym (apart-place p (place_of change) (ap (eq_by_cmp nat_cmp p.0) of_v ∙ apart)))
            ] refl;
        room = λ p other. room-put cells v new p ∙ elim (eq_by_cmp nat_cmp p.0 v) as (λ b. eq_by_cmp nat_cmp p.0 v ≡ b → cond b (room_in_cell new p.1) (room_in cells p) ≡ room_in cells p) [
          | true ↦ λ same.
              let here : v ≡ p.0 = sym (same_item map.nat_cmp-IsAntisymmetric p.0 v same) in
              ap (λ c. room_in_cell c p.1) noted
              ∙ noted-room at change old p.1 (ap (λ u. eq_by_cmp place_cmp (u, p.1) (place_of change)) (of_v ∙ here) ∙ other)
              ∙ ap (λ o. room_known o p.1) (sym was)
              ∙ ap (λ u. room_in cells (u, p.1)) here
          | false ↦ λ _. refl
        ] refl;
        floors = λ w. floor-put cells v new w ∙ elim (eq_by_cmp nat_cmp w v) as (λ b. eq_by_cmp nat_cmp w v ≡ b → cond b new.floor (floor_in cells w) ≡ floor_in cells w) [
          | true ↦ λ same. ap (λ c. c.floor) noted ∙ noted-floor at change old ∙ ap floor_known (sym was) ∙ ap (floor_in cells) (sym (same_item map.nat_cmp-IsAntisymmetric w v same))
          | false ↦ λ _. refl
        ] refl;
      }

  pub FoldsCell-folded : (f : ℕ) → IsFolded old f new → FoldsCell cells (map.insert cells v new) v f
  FoldsCell-folded f folded = record {
    own = λ p same.
        versions-put cells v new p
        ∙ ap (λ b. cond b (versions_in_cell new p.1) (versions_in cells p)) (ap (λ u. eq_by_cmp nat_cmp u v) same ∙ ap is_eq (tied_itself nat_cmp_total v))
        ∙ folded-versions old new f folded p.1
        ∙ (λ i. folded_to (max (floor_known (sym was i)) f) (versions_known (sym was i) p.1))
        ∙ ap (λ u. folded_to (max (floor_in cells v) f) (versions_in cells (u, p.1))) (sym same);
    others = λ p apart. versions-put cells v new p ∙ ap (λ b. cond b (versions_in_cell new p.1) (versions_in cells p)) (nat-test p.0 v ∙ apart);
    own_floor =
        let is : floor_in (map.insert cells v new) v ≡ max (floor_in cells v) f =
        floor-put cells v new v ∙ ap (λ r. cond (is_eq r) new.floor (floor_in cells v)) (tied_itself nat_cmp_total v) ∙ folded.floor ∙ ap (λ o. max (floor_known o) f) (sym was) in
        omega (arith, is);
    floors = λ w apart. floor-put cells v new w ∙ ap (λ b. cond b new.floor (floor_in cells w)) (nat-test w v ∙ apart);
  }

-- nothing is there to be folded
pub FoldsCell-absent : (cells : Cells) (v f : ℕ) → map.get cells v ≡ None → FoldsCell cells cells v f
FoldsCell-absent cells v f none = record {
  own = λ p same. let is : versions_in cells p ≡ no_versions = ap (λ u. versions_known (map.get cells u) p.1) same ∙ ap (λ o. versions_known o p.1) none in is ∙ ap (folded_to (max (floor_in cells v) f)) (sym is);
  others = λ p apart. refl;
  own_floor = omega arith;
  floors = λ w apart. refl;
}

-- a new cell, in which room was made
pub KeepsEntries-fresh : (cells : Cells) (v : ℕ) (fresh cell : Timeline) → map.get cells v ≡ None →
    fresh.floor ≡ 0 → fresh.at_floor ≡ record { label = None; near = map.empty } → fresh.label.changes ≡ [] → fresh.near ≡ map.empty → KeepsVersions fresh cell →
    KeepsEntries cells (map.insert cells v cell)
KeepsEntries-fresh cells v fresh cell none floor at_floor label near keeps =
    KeepsEntries-put cells v cell
    (λ to. kept-versions fresh cell keeps to ∙ fresh-versions fresh at_floor label near to ∙ ap (λ o. versions_known o to) (sym none))
    (λ to. let little : 0 ≤ room_in_cell cell to = omega arith in subst (λ o. room_known o to ≤ room_in_cell cell to) (sym none) little)
    (keeps.floor ∙ floor ∙ ap floor_known (sym none))

-- a cell with nothing tells what no cell tells
nothing-versions : (cell : Timeline) → HasNothing cell → (to : Option ℕ) → versions_in_cell cell to ≡ no_versions
nothing-versions cell nothing None = λ i. record { at_floor = nothing.label i; changes = nothing.label_changes i }
nothing-versions cell nothing (Some w) = λ i. record {
  at_floor = (ap (λ m. map.get m w) nothing.near ∙ map.get-empty {X = ℕ} nat_cmp w) i;
  changes = (ap (λ m. changes_of (map.get m w)) nothing.near_changes ∙ ap changes_of (map.get-empty {X = Track} nat_cmp w)) i;
}

nothing-known : (known : Option Timeline) → IfSome known HasNothing → (to : Option ℕ) → versions_known known to ≡ no_versions
nothing-known None nothing to = refl
nothing-known (Some cell) nothing to = nothing-versions cell nothing to

-- a folded cell with nothing goes
module _ (old cells : Cells) (v f : ℕ) (folds : FoldsCell old cells v f) (nothing : IfSome (map.get cells v) HasNothing) where
  get-removed : (w : ℕ) → map.get (map.remove cells v) w ≡ cond (eq_by_cmp nat_cmp w v) None (map.get cells w)
  get-removed w = map.get-remove nat_cmp_total cells v w

  get-own : (w : ℕ) → w ≡ v → map.get (map.remove cells v) w ≡ None
  get-own w same = get-removed w ∙ ap (λ b. cond b None (map.get cells w)) (ap (λ u. eq_by_cmp nat_cmp u v) same ∙ ap is_eq (tied_itself nat_cmp_total v))

  get-other : (w : ℕ) → eqb w v ≡ false → map.get (map.remove cells v) w ≡ map.get cells w
  get-other w apart = get-removed w ∙ ap (λ b. cond b None (map.get cells w)) (nat-test w v ∙ apart)

  pub FoldsCell-removed : FoldsCell old (map.remove cells v) v f
  FoldsCell-removed = record {
    own = λ p same.
        ap (λ o. versions_known o p.1) (get-own p.0 same)
        ∙ sym (nothing-known (map.get cells v) nothing p.1)
        ∙ ap (λ u. versions_in cells (u, p.1)) (sym same)
        ∙ folds.own p same;
    others = λ p apart. ap (λ o. versions_known o p.1) (get-other p.0 apart) ∙ folds.others p apart;
    own_floor =
        let is : floor_in (map.remove cells v) v ≡ 0 = ap floor_known (get-own v refl) in
        omega (arith, is);
    floors = λ w apart. ap floor_known (get-other w apart) ∙ folds.floors w apart;
  }

-- a vertex with its key
module _ (class : Class) (items : Cells) (v key : ℕ) (own : Owns class v) (at_key : key ≡ key_of class.shards v) where
  pub get-at_key : map.get (cells_of class items) v ≡ map.get items key
  get-at_key = get-owned class items v own ∙ ap (map.get items) (sym at_key)

  pub put-at_key : (cell : Timeline) → cells_of class (map.insert items key cell) ≡ map.insert (cells_of class items) v cell
  put-at_key cell = ap (λ k. cells_of class (map.insert items k cell)) at_key ∙ cells-insert class items v own cell

  pub taken-at_key : cells_of class (map.remove items key) ≡ map.remove (cells_of class items) v
  taken-at_key = ap (λ k. cells_of class (map.remove items k)) at_key ∙ cells-remove class items v own

  pub has-written : (new : Timeline) → map.get (cells_of class (map.insert items key new)) v ≡ Some new
  has-written new = ap (λ m. map.get m v) (put-at_key new) ∙ get-inserted (cells_of class items) v new

-- the cell that is there is written to
module _ (class : Class) (items : Cells) (v key : ℕ) (own : Owns class v) (at_key : key ≡ key_of class.shards v) (old new : Timeline) (was : map.get items key ≡ Some old) where
  had : map.get (cells_of class items) v ≡ Some old
  had = get-at_key class items v key own at_key ∙ was

  wrote : cells_of class (map.insert items key new) ≡ map.insert (cells_of class items) v new
  wrote = put-at_key class items v key own at_key new

  -- as it was
  pub same-written : new ≡ old → cells_of class (map.insert items key new) ≡ cells_of class items
  same-written same =
      map.same_map nat_cmp_total map.nat_cmp-IsAntisymmetric _ _ (λ q.
      ap (λ m. map.get m q) wrote
      ∙ map.get-insert nat_cmp_total (cells_of class items) v new q
      ∙ elim (eq_by_cmp nat_cmp q v) as (λ b. eq_by_cmp nat_cmp q v ≡ b → cond b (Some new) (map.get (cells_of class items) q) ≡ map.get (cells_of class items) q) [
        | true ↦ λ tied. ap Some same ∙ sym had ∙ ap (map.get (cells_of class items)) (sym (same_item map.nat_cmp-IsAntisymmetric q v tied))
        | false ↦ λ _. refl
      ] refl)

  pub KeepsEntries-written : KeepsVersions old new → KeepsEntries (cells_of class items) (cells_of class (map.insert items key new))
  KeepsEntries-written keeps = subst (KeepsEntries (cells_of class items)) (sym wrote) (KeepsEntries-kept (cells_of class items) v old new had keeps)

  pub NotesVersion-written : (at : ℕ) (change : Change) → vertex_of change ≡ v → new ≡ noted_in_cell at change old →
      NotesVersion (cells_of class items) (cells_of class (map.insert items key new)) (place_of change) (version_of at change)
  NotesVersion-written at change same noted =
      subst (λ m. NotesVersion (cells_of class items) m (place_of change) (version_of at change)) (sym wrote) (NotesVersion-noted (cells_of class items) v old new had at change same noted)

  pub FoldsCell-written : (f : ℕ) → IsFolded old f new → FoldsCell (cells_of class items) (cells_of class (map.insert items key new)) v f
  FoldsCell-written f folded = subst (λ m. FoldsCell (cells_of class items) m v f) (sym wrote) (FoldsCell-folded (cells_of class items) v old new had f folded)

-- what is known where a change is
pub cell-at : (cells : Cells) (change : Change) (o : Option Timeline) → map.get cells (vertex_of change) ≡ o → map.get cells (place_of change).0 ≡ o
cell-at cells change o is = ap (map.get cells) (vertex-place_of change) ∙ is

-- where there is room, the vertex is one of the class
pub Owns-room : (class : Class) (items : Cells) (change : Change) → 0 < room_in (cells_of class items) (place_of change) → Owns class (vertex_of change)
Owns-room class items change room = elim (eqb (vertex_of change % class.shards) class.number) as (λ b. eqb (vertex_of change % class.shards) class.number ≡ b → Owns class (vertex_of change)) [
  | true ↦ λ test. eqb-true _ _ test
  | false ↦ λ apart.
      let none : 0 < 0 = subst (λ o. 0 < room_known o (place_of change).1) (cell-at (cells_of class items) change None (get-foreign class items (vertex_of change) apart)) room in
      absurd (omega (arith, none))
] refl

-- and the cell at its key is the one with the room
pub get-with_room : (class : Class) (items : Cells) (change : Change) (v key : ℕ) → v ≡ vertex_of change → key ≡ key_of class.shards v → 0 < room_in (cells_of class items) (place_of change) →
    map.get (cells_of class items) (vertex_of change) ≡ map.get items key
get-with_room class items change v key same at_key room = get-at_key class items (vertex_of change) key (Owns-room class items change room) (at_key ∙ ap (key_of class.shards) same)
