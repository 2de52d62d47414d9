-- That a fold keeps what stands from its floor on.
use Rattle.std.proofs.Common.{◌≡◌, ◌-◌, ◌<◌, ◌≤◌, ℕ, max, sym, ap, ◌∙◌, arith}
use Rattle.std.specs.FinMap as map
use Rattle.graph_types.specs.meaning.Neighbourhood.{pair_of}
use Rattle.graph_types.proofs.Pairs.{same_neighbourhood}
use Rattle.version_cell.specs.calls.Changing.{IsFolded}
use Rattle.version_cell.specs.meaning.Cell.{Timeline, changes_of, near_after, neighbourhood_after, pair_at}
use Rattle.version_cell.specs.meaning.Changes.{changes_after, label_after}
use Rattle.version_cell.proofs.Folding.{label_after-folded}
use Rattle.version_cell.proofs.Labels.{near-neighbourhood_after}

module _ (old new : Timeline) (f : ℕ) (folded : IsFolded old f new) where
  near_after-folded : (t : ℕ) → max old.floor f ≤ t → (w : ℕ) → near_after new t w ≡ near_after old t w
  near_after-folded t above w =
      (λ i. label_after (map.get (folded.at_floor i).near w) (folded.near w i) t)
      ∙ ap (λ o. label_after o (changes_after (changes_of (map.get old.near w)) (max old.floor f)) t) (near-neighbourhood_after old (max old.floor f) w)
      ∙ label_after-folded (map.get old.at_floor.near w) (changes_of (map.get old.near w)) (max old.floor f) t above

  -- what stands after a timestamp from the floor on is what stood
  pub neighbourhood_after-folded : (t : ℕ) → max old.floor f ≤ t → neighbourhood_after new t ≡ neighbourhood_after old t
  neighbourhood_after-folded t above =
      same_neighbourhood (neighbourhood_after new t) (neighbourhood_after old t)
      ((λ i. label_after (folded.at_floor i).label (folded.label i) t) ∙ label_after-folded old.at_floor.label old.label.changes (max old.floor f) t above)
      (λ w. near-neighbourhood_after new t w ∙ near_after-folded t above w ∙ sym (near-neighbourhood_after old t w))

  -- each pair above the floor is what it was
  pub pair_at-folded : (t : ℕ) → max old.floor f < t → pair_at new t ≡ pair_at old t
  pair_at-folded t above =
      let then : max old.floor f ≤ t = omega arith in
      let before : max old.floor f ≤ t - 1 = omega arith in
      λ i. pair_of (neighbourhood_after-folded (t - 1) before i) (neighbourhood_after-folded t then i)
