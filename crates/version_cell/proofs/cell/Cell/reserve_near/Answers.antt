use Rattle.std.proofs.Common.{refl, sym, ◌∙◌}
use Rattle.std.specs.FinMap as map
use Rattle.std.specs.Ordering.{nat_cmp}
use Rattle.version_cell.proofs.KeptTracks.{KeepsTracks-then}
use Rattle.version_cell.proofs.PlaceLabels.{HavePlaces-kept}
use Rattle.version_cell.proofs.Reserving.{KeepsVersions-near}
use Rattle.version_cell.proofs.cell.Cell.reserve_near.Goals as goal

pub give_track-requires : goal.give_track-requires
give_track-requires c = sym c.in_ok-reserve_known.ensures.known ∙ c.if-branch.false

pub invariant_of-self : goal.invariant_of-self
invariant_of-self c = λ w has. c.self.invariant w (sym (c.reserve_known.ensures.lists w) ∙ has)

pub invariant_of-self-then-branch : goal.invariant_of-self-then-branch
invariant_of-self-then-branch c = λ w has. c.self.invariant w (sym (c.reserve_known.ensures.lists w) ∙ has)

pub invariant_of-self-in_err-give_place : goal.invariant_of-self-in_err-give_place
invariant_of-self-in_err-give_place c = λ w has. c.give_place.ensures.kept w (c.self.invariant w (sym (c.reserve_known.ensures.lists w) ∙ has))

pub invariant_of-self-2 : goal.invariant_of-self-2
invariant_of-self-2 c =
    HavePlaces-kept (map.from_entries {R = nat_cmp} c.reserve_known.new.near.entries) (map.from_entries {R = nat_cmp} c.give_track.new.near.entries)
    c.give_place.new.places c.args.to c.give_track.ensures.kept c.in_ok-give_place.ensures.ok
    (λ w has. c.give_place.ensures.kept w (c.self.invariant w (sym (c.reserve_known.ensures.lists w) ∙ has)))

pub returns-in_err-reserve_known-clause-kept : goal.returns-in_err-reserve_known-clause-kept
returns-in_err-reserve_known-clause-kept c =
    KeepsVersions-near c.self.inside.floor c.self.inside.label c.self.inside.label_changes c.args.self.now c.self.inside.places c.self.inside.places
    (map.from_entries {R = nat_cmp} c.self.inside.near_changes.entries) (map.from_entries {R = nat_cmp} c.reserve_known.new.near.entries)
    c.args.to c.self.view_is refl c.reserve_known.ensures.kept

pub returns-then-branch-clause-kept : goal.returns-then-branch-clause-kept
returns-then-branch-clause-kept c =
    KeepsVersions-near c.self.inside.floor c.self.inside.label c.self.inside.label_changes c.args.self.now c.self.inside.places c.self.inside.places
    (map.from_entries {R = nat_cmp} c.self.inside.near_changes.entries) (map.from_entries {R = nat_cmp} c.reserve_known.new.near.entries)
    c.args.to c.self.view_is refl c.reserve_known.ensures.kept

pub returns-then-branch-clause-ok : goal.returns-then-branch-clause-ok
returns-then-branch-clause-ok c = c.in_ok-reserve_known.ensures.room c.if-branch.true

pub returns-in_err-give_place-clause-kept : goal.returns-in_err-give_place-clause-kept
returns-in_err-give_place-clause-kept c =
    KeepsVersions-near c.self.inside.floor c.self.inside.label c.self.inside.label_changes c.args.self.now c.self.inside.places c.give_place.new.places
    (map.from_entries {R = nat_cmp} c.self.inside.near_changes.entries) (map.from_entries {R = nat_cmp} c.reserve_known.new.near.entries)
    c.args.to c.self.view_is c.give_place.ensures.same c.reserve_known.ensures.kept

pub returns-clause-kept : goal.returns-clause-kept
returns-clause-kept c =
    KeepsVersions-near c.self.inside.floor c.self.inside.label c.self.inside.label_changes c.args.self.now c.self.inside.places c.give_place.new.places
    (map.from_entries {R = nat_cmp} c.self.inside.near_changes.entries) (map.from_entries {R = nat_cmp} c.give_track.new.near.entries)
    c.args.to c.self.view_is c.give_place.ensures.same (KeepsTracks-then _ _ _ c.args.to c.reserve_known.ensures.kept c.give_track.ensures.kept)
