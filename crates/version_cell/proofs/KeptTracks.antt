-- Lists of changes that are kept.
use Rattle.std.proofs.Common.{◌≡◌, ◌≤◌, ℕ, Bool, true, false, ◌||◌, cond, eqb, List, Some, refl, sym, ap, subst, ◌∙◌, IsTrue, arith}
use Rattle.std.specs.FinMap as map
use Rattle.std.specs.Option.{is_some}
use Rattle.std.specs.BTreeMap.{is_at}
use Rattle.std.specs.Cmp.{nat_cmp_total, tied_itself}
use Rattle.std.specs.Map.{lookup}
use Rattle.std.specs.Ordering.{eq_by_cmp, is_eq, nat_cmp}
use Rattle.std.proofs.lemmas.Bool.{or_left, or_right}
use Rattle.graph_types.proofs.Rows.{nat-test}
use Rattle.graph_types.proofs.Views.{get-seen, written-seen}
use Rattle.version_cell.specs.meaning.Cell.{changes_of, room_of}
use Rattle.version_cell.specs.meaning.Changes.{Track}
use Rattle.version_cell.specs.storage.Tracks.{KeepsTracks, Tracks}
use Rattle.shared_lemmas.proofs.Orderings.{same_item}

either : (a b : Bool) (P : Type 0) → (IsTrue a → P) → (IsTrue b → P) → IsTrue (a || b) → P
either true b P first second has = first refl
either false b P first second has = second has

keeps-itself : (m : Tracks) (w : ℕ) → KeepsTracks m m w
keeps-itself m w = record {
  changes = λ v. refl;
  room = λ v. omega arith;
  keys = λ v has. or_left (map.contains_key m v) (eqb v w) has;
}

pub KeepsTracks-same : (old new : Tracks) (w : ℕ) → new ≡ old → KeepsTracks old new w
KeepsTracks-same old new w same = subst (λ m. KeepsTracks old m w) (sym same) (keeps-itself old w)

pub KeepsTracks-then : (a b c : Tracks) (w : ℕ) → KeepsTracks a b w → KeepsTracks b c w → KeepsTracks a c w
KeepsTracks-then a b c w first second = record {
  changes = λ v. second.changes v ∙ first.changes v;
  room = λ v. let one : room_of (map.get a v) ≤ room_of (map.get b v) = first.room v in let two : room_of (map.get b v) ≤ room_of (map.get c v) = second.room v in omega arith;
  keys = λ v has. either (map.contains_key b v) (eqb v w) (IsTrue (map.contains_key a v || eqb v w)) (first.keys v) (or_right (map.contains_key a v) (eqb v w)) (second.keys v has);
}

-- a list with the same changes and no less room
pub KeepsTracks-insert : (m : Tracks) (w : ℕ) (track : Track) → track.changes ≡ changes_of (map.get m w) → room_of (map.get m w) ≤ track.room → KeepsTracks m (map.insert m w track) w
KeepsTracks-insert m w track same more = record {
  changes = λ v. ap changes_of (map.get-insert nat_cmp_total m w track v) ∙ elim (eq_by_cmp nat_cmp v w) as (λ b. eq_by_cmp nat_cmp v w ≡ b → changes_of (cond b (Some track) (map.get m v)) ≡ changes_of (map.get m v)) [
    | true ↦ λ is. same ∙ ap (λ u. changes_of (map.get m u)) (sym (same_item map.nat_cmp-IsAntisymmetric v w is))
    | false ↦ λ _. refl
  ] refl;
  room = λ v. subst (λ o. room_of (map.get m v) ≤ room_of o) (sym (map.get-insert nat_cmp_total m w track v)) (elim (eq_by_cmp nat_cmp v w) as (λ b. eq_by_cmp nat_cmp v w ≡ b → room_of (map.get m v) ≤ room_of (cond b (Some track) (map.get m v))) [
    | true ↦ λ is. subst (λ u. room_of (map.get m u) ≤ track.room) (sym (same_item map.nat_cmp-IsAntisymmetric v w is)) more
    | false ↦ λ _. omega arith
  ] refl);
  keys = λ v has. elim (eq_by_cmp nat_cmp v w) as (λ b. eq_by_cmp nat_cmp v w ≡ b → IsTrue (is_some (cond b (Some track) (map.get m v))) → IsTrue (map.contains_key m v || eqb v w)) [
    | true ↦ λ is _. or_right (map.contains_key m v) (eqb v w) (sym (nat-test v w) ∙ is)
    | false ↦ λ _ was. or_left (map.contains_key m v) (eqb v w) was
  ] refl (sym (ap is_some (map.get-insert nat_cmp_total m w track v)) ∙ has);
}

pub get-inserted : (m : Tracks) (w : ℕ) (track : Track) → map.get (map.insert m w track) w ≡ Some track
get-inserted m w track = map.get-insert nat_cmp_total m w track w ∙ ap (λ r. cond (is_eq r) (Some track) (map.get m w)) (tied_itself nat_cmp_total w)

-- a list that is written to
module _ (es left : List (ℕ × Track)) (w : ℕ) (before after : Track) (was : lookup (is_at (nat_cmp w)) es ≡ Some before)
    (is : (q : ℕ) → lookup (is_at (nat_cmp q)) left ≡ cond (is_at (nat_cmp w) q) (Some after) (lookup (is_at (nat_cmp q)) es)) where
  wrote : map.from_entries {R = nat_cmp} left ≡ map.insert (map.from_entries es) w after
  wrote = written-seen nat_cmp_total map.nat_cmp-IsAntisymmetric es left w after is

  had : map.get (map.from_entries {R = nat_cmp} es) w ≡ Some before
  had = sym (get-seen nat_cmp_total w es) ∙ was

  pub KeepsTracks-written : after.changes ≡ before.changes → before.room ≤ after.room → KeepsTracks (map.from_entries es) (map.from_entries left) w
  KeepsTracks-written same more =
      subst (λ m. KeepsTracks (map.from_entries es) m w) (sym wrote)
      (KeepsTracks-insert (map.from_entries es) w after (same ∙ ap changes_of (sym had)) (subst (λ o. room_of o ≤ after.room) (sym had) more))

  pub get-written : map.get (map.from_entries {R = nat_cmp} left) w ≡ Some after
  get-written = ap (λ m. map.get m w) wrote ∙ get-inserted (map.from_entries {R = nat_cmp} es) w after

  -- it has a list where it had one
  pub contains_key-written : (v : ℕ) → map.contains_key (map.from_entries {R = nat_cmp} left) v ≡ map.contains_key (map.from_entries {R = nat_cmp} es) v
  contains_key-written v =
      ap (λ m. map.contains_key m v) wrote
      ∙ ap is_some (map.get-insert nat_cmp_total (map.from_entries {R = nat_cmp} es) w after v)
      ∙ elim (eq_by_cmp nat_cmp v w) as (λ b. eq_by_cmp nat_cmp v w ≡ b →
      is_some (cond b (Some after) (map.get (map.from_entries {R = nat_cmp} es) v)) ≡ map.contains_key (map.from_entries {R = nat_cmp} es) v) [
        | true ↦ λ same. sym (ap is_some (ap (map.get (map.from_entries {R = nat_cmp} es)) (same_item map.nat_cmp-IsAntisymmetric v w same) ∙ had))
        | false ↦ λ _. refl
      ] refl
