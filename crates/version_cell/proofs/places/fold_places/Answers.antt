use Rattle.std.proofs.Common.{◌∷◌, sym, ap, subst, ◌∙◌}
use Rattle.std.specs.Cmp.{nat_cmp_total}
use Rattle.std.specs.FinMap as map
use Rattle.std.specs.Option.{is_some}
use Rattle.std.specs.Ordering.{nat_cmp}
use Rattle.version_cell.specs.meaning.Cell.{changes_of}
use Rattle.version_cell.specs.meaning.Changes.{changes_after, label_after}
use Rattle.version_cell.specs.storage.Places.{place_label}
use Rattle.version_cell.specs.storage.Tracks.{is_changed}
use Rattle.version_cell.proofs.FoldedPlaces.{IsFolding, folding-init, folding-with_place}
use Rattle.version_cell.proofs.places.fold_places.Goals as goal

pub loop-to-init : goal.loop-to-init
loop-to-init c =
    subst (IsFolding c.args.places.now c.args.near.now.entries c.args.t c.args.places.now) (sym c.into_iter-to-iterator.ensures.into_iter_gives.0)
    (folding-init c.args.places.now c.args.near.now.entries c.args.t c.into_iter-to-iterator.ensures.into_iter_gives.5
    (λ w has. c.requires w (ap is_some (map.get-from_entries nat_cmp_total c.args.near.now.entries w) ∙ has)))

pub loop-to-preserved : goal.loop-to-preserved
loop-to-preserved c =
    let next : IsFolding c.args.places.now c.args.near.now.entries c.args.t c.loop-to.places ((c.in-Some.to.now, c.in-Some.changes.now) ∷ c.next.new.self) =
    subst (IsFolding c.args.places.now c.args.near.now.entries c.args.t c.loop-to.places) c.in-Some.ensures.steps c.loop-to.invariant in
    subst (λ places. IsFolding c.args.places.now c.args.near.now.entries c.args.t places c.next.new.self) (sym c.set_place.ensures)
    (folding-with_place c.args.places.now c.args.near.now.entries c.args.t c.loop-to.places c.in-Some.to.now c.in-Some.changes.now c.next.new.self next
    c.label_after-label.result c.goes_past.result
    (c.label_after-label.ensures ∙ ap (λ o. label_after o c.in-Some.changes.now.changes c.args.t) c.floor_label.ensures) c.goes_past.ensures)

pub returns-clause-labels : goal.returns-clause-labels
returns-clause-labels c = λ w.
    ap (λ left. label_after (place_label c.loop-to.places w) (changes_of (map.find nat_cmp w left)) c.args.t) (sym c.in-None.ensures.steps.0)
    ∙ c.loop-to.invariant.labels w
    ∙ ap (λ o. label_after (place_label c.args.places.now w) (changes_of o) c.args.t) (sym (map.get-from_entries nat_cmp_total c.args.near.now.entries w))

pub returns-clause-stays : goal.returns-clause-stays
returns-clause-stays c = λ w changed.
    c.loop-to.invariant.stays w (ap (λ o. is_changed (changes_after (changes_of o) c.args.t)) (sym (map.get-from_entries nat_cmp_total c.args.near.now.entries w)) ∙ changed)
