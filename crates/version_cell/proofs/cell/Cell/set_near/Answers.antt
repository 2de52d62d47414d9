use Rattle.std.proofs.Common.{◌≡◌, ◌<◌, None, Some, arith, ap, sym, subst, ◌∙◌}
use Rattle.std.specs.Cmp.{nat_cmp_total}
use Rattle.std.specs.FinMap as map
use Rattle.std.specs.Option.{is_some}
use Rattle.std.specs.Ordering.{nat_cmp}
use Rattle.graph_types.proofs.Views.{get-seen, written-seen}
use Rattle.version_cell.specs.declared.change.Change.{Change}
use Rattle.version_cell.specs.meaning.Cell.{changes_of, room_of}
use Rattle.version_cell.specs.meaning.Changes.{with_change}
use Rattle.version_cell.specs.storage.Places.{HavePlaces}
use Rattle.version_cell.proofs.PlaceLabels.{HavePlaces-insert}
use Rattle.version_cell.proofs.cell.Cell.set_near.Goals as goal

pub unreachable-requires : goal.unreachable-requires
unreachable-requires c =
    let none : map.get c.args.self.now.near c.args.to ≡ None =
    ap (λ m. map.get m.near c.args.to) (sym c.self.view_is) ∙ sym (get-seen nat_cmp_total _ _) ∙ sym c.in_default.ensures.value in
    let room : 0 < 0 = subst (λ o. 0 < room_of o) none c.requires.reserved in
    omega arith

pub push-requires : goal.push-requires
push-requires c =
    subst (λ o. 0 < room_of o) (ap (λ m. map.get m.near c.args.to) (sym c.self.view_is) ∙ sym (get-seen nat_cmp_total _ _) ∙ sym c.in-Some.ensures.value) c.requires.reserved

had : (c : goal.After-self-2-1) → map.get c.args.self.now.near c.args.to ≡ Some c.in-Some.changes.now
had c = ap (λ m. map.get m.near c.args.to) (sym c.self.view_is) ∙ sym (get-seen nat_cmp_total _ _) ∙ sym c.in-Some.ensures.value

wrote : (c : goal.After-self-2-1) → map.from_entries {R = nat_cmp} (c.get_mut.follows.lender c.push.new.self).entries ≡ map.insert (map.from_entries {R = nat_cmp} c.self.inside.near_changes.entries) c.args.to c.push.new.self
wrote c =
    written-seen nat_cmp_total map.nat_cmp-IsAntisymmetric _ _ c.args.to _
    ((c.get_mut.follows.holds c.push.new.self).3 (ap is_some (sym c.in-Some.ensures.value))).0

pub invariant_of-self : goal.invariant_of-self
invariant_of-self c =
    subst (λ near. HavePlaces near c.self.inside.places) (sym (wrote c))
    (HavePlaces-insert (map.from_entries {R = nat_cmp} c.self.inside.near_changes.entries) c.self.inside.places c.args.to c.push.new.self
    (ap is_some (sym (get-seen nat_cmp_total _ _) ∙ sym c.in-Some.ensures.value)) c.self.invariant)

pub returns : goal.returns
returns c =
    let change : Change = record { at = c.args.at; label = c.args.label } in
    let track = c.push.ensures ∙ ap (λ o. with_change (record { changes = changes_of o; room = room_of o }) change) (sym (had c)) in
    let near = wrote c ∙ (λ i. map.insert (c.self.view_is i).near c.args.to (track i)) in
    λ i. record { floor = (c.self.view_is i).floor; at_floor = (c.self.view_is i).at_floor; label = (c.self.view_is i).label; near = near i }
