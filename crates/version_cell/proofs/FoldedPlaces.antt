-- Places whose labels are brought to a later timestamp, one after another.
use Rattle.std.proofs.Common.{◌≡◌, ℕ, Bool, true, false, cond, IsTrue, List, ◌∷◌, refl, sym, ap, subst, ◌∙◌, Option, None, Some}
use Rattle.std.specs.FinMap as map
use Rattle.std.specs.List.Sorted.{IsStrictlySortedBy}
use Rattle.std.specs.Map.{keys_of}
use Rattle.std.specs.Option.{is_some}
use Rattle.std.specs.Ordering.{nat_cmp, eq_by_cmp}
use Rattle.std.proofs.lemmas.Bool.{false≢true}
use Rattle.std.proofs.lemmas.Map.Keys.{sorted_head, sorted_tail}
use Rattle.graph_types.proofs.Rows.{find-below}
use Rattle.shared_lemmas.proofs.Orderings.{same_item}
use Rattle.version_cell.specs.meaning.Cell.{changes_of}
use Rattle.version_cell.specs.meaning.Changes.{Track, changes_after, label_after}
use Rattle.version_cell.specs.storage.Places.{Places, place_label, with_place}
use Rattle.version_cell.specs.storage.Tracks.{is_changed}
use Rattle.version_cell.proofs.PlaceLabels.{contains_key-with_place, get-placed_apart, place_label-with_place}

-- where changes are left, there is a list of them
pub some_changed : (o : Option Track) (t : ℕ) → IsTrue (is_changed (changes_after (changes_of o) t)) → IsTrue (is_some o)
some_changed None t changed = absurd (false≢true changed)
some_changed (Some track) t changed = refl

module _ (start : Places) (near : List (ℕ × Track)) (t : ℕ) where
  -- the places have the labels after timestamp t, but for those of the lists that are left
  pub record IsFolding (places : Places) (left : List (ℕ × Track)) : Type 0 where
    pub ascending : IsStrictlySortedBy nat_cmp (keys_of left)
    pub same : (w : ℕ) → IsTrue (is_some (map.find nat_cmp w left)) → map.find nat_cmp w left ≡ map.find nat_cmp w near
    pub labels : (w : ℕ) → label_after (place_label places w) (changes_of (map.find nat_cmp w left)) t ≡ label_after (place_label start w) (changes_of (map.find nat_cmp w near)) t
    pub there : (w : ℕ) → IsTrue (is_some (map.find nat_cmp w left)) → IsTrue (map.contains_key places w)
    pub stays : (w : ℕ) → IsTrue (is_changed (changes_after (changes_of (map.find nat_cmp w near)) t)) → IsTrue (map.contains_key places w)

  pub folding-init : IsStrictlySortedBy nat_cmp (keys_of near) → ((w : ℕ) → IsTrue (is_some (map.find nat_cmp w near)) → IsTrue (map.contains_key start w)) → IsFolding start near
  folding-init ascending have = record {
    ascending = ascending;
    same = λ w _. refl;
    labels = λ w. refl;
    there = have;
    stays = λ w changed. have w (some_changed (map.find nat_cmp w near) t changed);
  }

  module _ (places : Places) (to : ℕ) (track : Track) (rest : List (ℕ × Track)) (folding : IsFolding places ((to, track) ∷ rest)) where
    found-here : (w : ℕ) → eq_by_cmp nat_cmp w to ≡ true → map.find nat_cmp w ((to, track) ∷ rest) ≡ Some track
    found-here w same = ap (λ b. cond b (Some track) (map.find nat_cmp w rest)) same

    found-apart : (w : ℕ) → eq_by_cmp nat_cmp w to ≡ false → map.find nat_cmp w ((to, track) ∷ rest) ≡ map.find nat_cmp w rest
    found-apart w apart = ap (λ b. cond b (Some track) (map.find nat_cmp w rest)) apart

    not_again : (w : ℕ) → eq_by_cmp nat_cmp w to ≡ true → map.find nat_cmp w rest ≡ None
    not_again w same =
        ap (λ u. map.find nat_cmp u rest) (same_item map.nat_cmp-IsAntisymmetric w to same)
        ∙ find-below nat_cmp to rest (sorted_head nat_cmp _ _ folding.ascending)

    apart_from : (w : ℕ) → IsTrue (is_some (map.find nat_cmp w rest)) → eq_by_cmp nat_cmp w to ≡ false
    apart_from w has = elim (eq_by_cmp nat_cmp w to) as (λ b. eq_by_cmp nat_cmp w to ≡ b → b ≡ false) [
      | true ↦ λ same. sym has ∙ ap is_some (not_again w same)
      | false ↦ λ _. refl
    ] refl

    there-before : (w : ℕ) → IsTrue (is_some (map.find nat_cmp w rest)) → IsTrue (is_some (map.find nat_cmp w ((to, track) ∷ rest)))
    there-before w has = ap is_some (found-apart w (apart_from w has)) ∙ has

    module _ (label : Option ℕ) (kept : Bool) (label_is : label ≡ label_after (place_label places to) track.changes t) (kept_is : kept ≡ is_changed (changes_after track.changes t)) where
      labels-with_place : (w : ℕ) → label_after (place_label (with_place places to label kept) w) (changes_of (map.find nat_cmp w rest)) t ≡ label_after (place_label start w) (changes_of (map.find nat_cmp w near)) t
      labels-with_place w =
          ap (λ o. label_after o (changes_of (map.find nat_cmp w rest)) t) (place_label-with_place places to label kept w)
          ∙ elim (eq_by_cmp nat_cmp w to) as (λ b. eq_by_cmp nat_cmp w to ≡ b → label_after (cond b label (place_label places w)) (changes_of (map.find nat_cmp w rest)) t ≡ label_after (place_label start w) (changes_of (map.find nat_cmp w near)) t) [
            | true ↦ λ same.
                ap (λ o. label_after label (changes_of o) t) (not_again w same)
                ∙ label_is
                ∙ ap (λ u. label_after (place_label places u) track.changes t) (sym (same_item map.nat_cmp-IsAntisymmetric w to same))
                ∙ ap (λ o. label_after (place_label places w) (changes_of o) t) (sym (found-here w same))
                ∙ folding.labels w
            | false ↦ λ apart.
                ap (λ o. label_after (place_label places w) (changes_of o) t) (sym (found-apart w apart))
                ∙ folding.labels w
          ] refl

      stays-with_place : (w : ℕ) → IsTrue (is_changed (changes_after (changes_of (map.find nat_cmp w near)) t)) → IsTrue (map.contains_key (with_place places to label kept) w)
      stays-with_place w changed = elim (eq_by_cmp nat_cmp w to) as (λ b. eq_by_cmp nat_cmp w to ≡ b → IsTrue (map.contains_key (with_place places to label kept) w)) [
        | true ↦ λ same.
            let one : map.find nat_cmp w near ≡ Some track = sym (folding.same w (ap is_some (found-here w same))) ∙ found-here w same in
            let keeps : IsTrue kept = kept_is ∙ ap (λ o. is_changed (changes_after (changes_of o) t)) (sym one) ∙ changed in
            subst (λ u. IsTrue (map.contains_key (with_place places to label kept) u)) (sym (same_item map.nat_cmp-IsAntisymmetric w to same)) (contains_key-with_place places to label kept keeps)
        | false ↦ λ apart. ap is_some (get-placed_apart places to label kept w apart) ∙ folding.stays w changed
      ] refl

      -- one list more
      pub folding-with_place : IsFolding (with_place places to label kept) rest
      folding-with_place = record {
        ascending = sorted_tail nat_cmp _ _ folding.ascending;
        same = λ w has. sym (found-apart w (apart_from w has)) ∙ folding.same w (there-before w has);
        labels = labels-with_place;
        there = λ w has. ap is_some (get-placed_apart places to label kept w (apart_from w has)) ∙ folding.there w (there-before w has);
        stays = stays-with_place;
      }
