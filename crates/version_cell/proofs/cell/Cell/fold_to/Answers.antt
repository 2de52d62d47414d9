use Rattle.std.proofs.Common.{subst}
use Rattle.std.specs.FinMap as map
use Rattle.std.specs.Ordering.{nat_cmp}
use Rattle.version_cell.specs.calls.Changing.{IsFolded}
use Rattle.version_cell.specs.meaning.Cell.{Timeline}
use Rattle.version_cell.specs.storage.Places.{near_at_floor}
use Rattle.version_cell.proofs.AboveFloor.{IsAboveFloor-folded}
use Rattle.version_cell.proofs.FoldedCell.{HavePlaces-folded, IsFolded-parts}
use Rattle.version_cell.proofs.Folds.{pair_at-folded}
use Rattle.version_cell.proofs.cell.Cell.fold_to.Goals as goal

pub fold_places-requires : goal.fold_places-requires
fold_places-requires c = c.self.invariant

pub invariant_of-self : goal.invariant_of-self
invariant_of-self c =
    HavePlaces-folded (map.from_entries {R = nat_cmp} c.self.inside.near_changes.entries) (map.from_entries {R = nat_cmp} c.forget_to.new.near.entries)
    c.self.inside.places c.fold_places.new.places c.greater-floor.result c.forget_to.ensures.rest c.forget_to.ensures.left c.fold_places.ensures.stays

module _ (c : goal.After-floor-1) where
  abbrev new : Timeline
  new = record {
    floor = c.greater-floor.result;
    at_floor = record { label = c.fold_to-self-inside.result; near = near_at_floor c.fold_places.new.places };
    label = c.fold_to-self-inside.new.self;
    near = map.from_entries {R = nat_cmp} c.forget_to.new.near.entries;
  }

  folded : IsFolded c.args.self.now c.args.t new
  folded =
      subst (λ cell. IsFolded cell c.args.t new) c.self.view_is
      (IsFolded-parts (map.from_entries {R = nat_cmp} c.self.inside.near_changes.entries) (map.from_entries {R = nat_cmp} c.forget_to.new.near.entries)
      c.self.inside.places c.fold_places.new.places c.greater-floor.result c.forget_to.ensures.rest
      c.self.inside.floor c.self.inside.label c.self.inside.label_changes c.args.t c.greater-floor.ensures
      c.fold_places.ensures.labels c.fold_to-self-inside.result c.fold_to-self-inside.ensures.label c.fold_to-self-inside.new.self c.fold_to-self-inside.ensures.rest)

pub returns-clause-folded : goal.returns-clause-folded
returns-clause-folded c = folded c

pub returns-clause-pairs : goal.returns-clause-pairs
returns-clause-pairs c = λ later above. pair_at-folded c.args.self.now (new c) c.args.t (folded c) later above

pub returns-clause-one_version : goal.returns-clause-one_version
returns-clause-one_version c = IsAboveFloor-folded c.args.self.now (new c) c.args.t (folded c)
