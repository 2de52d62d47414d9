-- That a cell whose parts are folded is folded.
use Rattle.std.proofs.Common.{◌≡◌, ℕ, max, Option, sym, ap, ◌∙◌, IsTrue}
use Rattle.std.specs.Cmp.{nat_cmp_total}
use Rattle.std.specs.FinMap as map
use Rattle.version_cell.specs.calls.Changing.{IsFolded}
use Rattle.version_cell.specs.meaning.Cell.{Timeline, changes_of, neighbourhood_after}
use Rattle.version_cell.specs.meaning.Changes.{Track, changes_after, label_after}
use Rattle.version_cell.specs.storage.Places.{HavePlaces, Places, near_at_floor, place_label}
use Rattle.version_cell.specs.storage.Tracks.{Tracks, is_changed}
use Rattle.version_cell.proofs.Labels.{near-neighbourhood_after}
use Rattle.version_cell.proofs.PlaceLabels.{get-near_at_floor}

module _ (near new_near : Tracks) (places new_places : Places) (t : ℕ)
    (rest : (w : ℕ) → changes_of (map.get new_near w) ≡ changes_after (changes_of (map.get near w)) t) where
  -- each list that is left has its place
  pub HavePlaces-folded : ((w : ℕ) → IsTrue (map.contains_key new_near w) → IsTrue (is_changed (changes_of (map.get new_near w)))) →
      ((w : ℕ) → IsTrue (is_changed (changes_after (changes_of (map.get near w)) t)) → IsTrue (map.contains_key new_places w)) → HavePlaces new_near new_places
  HavePlaces-folded left stays w has = stays w (ap is_changed (sym (rest w)) ∙ left w has)

  module _ (floor : ℕ) (label : Option ℕ) (track : Track) (f : ℕ) (is : t ≡ max floor f) where
    abbrev old : Timeline
    old = record { floor = floor; at_floor = record { label = label; near = near_at_floor places }; label = track; near = near }

    -- what stands at the new floor is what stood after it
    pub IsFolded-parts : ((w : ℕ) → place_label new_places w ≡ label_after (place_label places w) (changes_of (map.get near w)) t) →
        (new_label : Option ℕ) → new_label ≡ label_after label track.changes t → (new_track : Track) → new_track.changes ≡ changes_after track.changes t →
        IsFolded old f (record { floor = t; at_floor = record { label = new_label; near = near_at_floor new_places }; label = new_track; near = new_near })
    IsFolded-parts labels new_label label_is new_track track_is =
        let alike : near_at_floor new_places ≡ (neighbourhood_after old t).near =
        map.same_map nat_cmp_total map.nat_cmp-IsAntisymmetric (near_at_floor new_places) (neighbourhood_after old t).near (λ w.
        get-near_at_floor new_places w
        ∙ labels w
        ∙ ap (λ o. label_after o (changes_of (map.get near w)) t) (sym (get-near_at_floor places w))
        ∙ sym (near-neighbourhood_after old t w)) in
        record {
          floor = is;
          at_floor = (λ i. record { label = label_is i; near = alike i }) ∙ ap (neighbourhood_after old) is;
          label = track_is ∙ ap (changes_after track.changes) is;
          near = λ w. rest w ∙ ap (changes_after (changes_of (map.get near w))) is;
        }
