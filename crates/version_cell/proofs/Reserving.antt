-- That a reservation keeps the versions.
use Rattle.std.proofs.Common.{◌≡◌, ℕ, Option, refl, subst, arith}
use Rattle.version_cell.specs.calls.Changing.{KeepsVersions}
use Rattle.version_cell.specs.meaning.Cell.{Timeline}
use Rattle.version_cell.specs.meaning.Changes.{Track}
use Rattle.version_cell.specs.storage.Places.{Places, near_at_floor}
use Rattle.version_cell.specs.storage.Tracks.{KeepsTracks, Tracks}

module _ (floor : ℕ) (label : Option ℕ) (track : Track) where
  abbrev seen : Places → Tracks → Timeline
  seen places near = record { floor = floor; at_floor = record { label = label; near = near_at_floor places }; label = track; near = near }

  -- places of the same edges, and the same changes
  pub KeepsVersions-near : (cell : Timeline) (places new_places : Places) (near new_near : Tracks) (w : ℕ) → seen places near ≡ cell →
      near_at_floor new_places ≡ near_at_floor places → KeepsTracks near new_near w → KeepsVersions cell (seen new_places new_near)
  KeepsVersions-near cell places new_places near new_near w is same keeps =
      subst (λ c. KeepsVersions c (seen new_places new_near)) is (record {
        floor = refl;
        at_floor = λ i. record { label = label; near = same i };
        label = refl;
        near = keeps.changes;
        label_room = omega arith;
        near_room = keeps.room;
      })
