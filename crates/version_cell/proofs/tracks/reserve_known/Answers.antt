use Rattle.std.proofs.Common.{◌≡◌, ◌<◌, None, Some, sym, ap, subst, ◌∙◌}
use Rattle.std.specs.Cmp.{nat_cmp_total}
use Rattle.std.specs.FinMap as map
use Rattle.std.specs.Option.{is_some}
use Rattle.std.specs.Ordering.{nat_cmp}
use Rattle.graph_types.proofs.Views.{get-seen}
use Rattle.version_cell.specs.meaning.Cell.{room_of}
use Rattle.version_cell.proofs.KeptTracks.{KeepsTracks-same, KeepsTracks-written, contains_key-written, get-written}
use Rattle.version_cell.proofs.tracks.reserve_known.Goals as goal

pub returns-in_default-clause-kept : goal.returns-in_default-clause-kept
returns-in_default-clause-kept c = KeepsTracks-same _ _ c.args.to (ap (λ m. map.from_entries {R = nat_cmp} m.entries) c.get_mut.follows.holds-at-none)

pub returns-in_default-clause-lists : goal.returns-in_default-clause-lists
returns-in_default-clause-lists c = λ w. ap (λ m. map.contains_key (map.from_entries {R = nat_cmp} m.entries) w) c.get_mut.follows.holds-at-none

pub returns-in_default-clause-known : goal.returns-in_default-clause-known
returns-in_default-clause-known c =
    let absent : map.get (map.from_entries {R = nat_cmp} c.args.near.now.entries) c.args.to ≡ None = sym (get-seen nat_cmp_total _ _) ∙ sym c.in_default.ensures.value in
    sym (ap (λ m. map.contains_key (map.from_entries {R = nat_cmp} m.entries) c.args.to) c.get_mut.follows.holds-at-none ∙ ap is_some absent)

pub returns-in_err-reserve-clause-kept : goal.returns-in_err-reserve-clause-kept
returns-in_err-reserve-clause-kept c =
    KeepsTracks-written c.args.near.now.entries (c.get_mut.follows.lender c.reserve.new.self).entries c.args.to c.in-Some.changes.now c.reserve.new.self
    (sym c.in-Some.ensures.value) ((c.get_mut.follows.holds c.reserve.new.self).3 (ap is_some (sym c.in-Some.ensures.value))).0
    c.reserve.ensures.same c.reserve.ensures.kept

pub returns-in_err-reserve-clause-lists : goal.returns-in_err-reserve-clause-lists
returns-in_err-reserve-clause-lists c =
    contains_key-written c.args.near.now.entries (c.get_mut.follows.lender c.reserve.new.self).entries c.args.to c.in-Some.changes.now c.reserve.new.self
    (sym c.in-Some.ensures.value) ((c.get_mut.follows.holds c.reserve.new.self).3 (ap is_some (sym c.in-Some.ensures.value))).0

pub returns-clause-kept : goal.returns-clause-kept
returns-clause-kept c =
    KeepsTracks-written c.args.near.now.entries (c.get_mut.follows.lender c.reserve.new.self).entries c.args.to c.in-Some.changes.now c.reserve.new.self
    (sym c.in-Some.ensures.value) ((c.get_mut.follows.holds c.reserve.new.self).3 (ap is_some (sym c.in-Some.ensures.value))).0
    c.reserve.ensures.same c.reserve.ensures.kept

pub returns-clause-lists : goal.returns-clause-lists
returns-clause-lists c =
    contains_key-written c.args.near.now.entries (c.get_mut.follows.lender c.reserve.new.self).entries c.args.to c.in-Some.changes.now c.reserve.new.self
    (sym c.in-Some.ensures.value) ((c.get_mut.follows.holds c.reserve.new.self).3 (ap is_some (sym c.in-Some.ensures.value))).0

there : (c : goal.In_ok-reserve) → map.get (map.from_entries {R = nat_cmp} (c.get_mut.follows.lender c.reserve.new.self).entries) c.args.to ≡ Some c.reserve.new.self
there c =
    get-written c.args.near.now.entries (c.get_mut.follows.lender c.reserve.new.self).entries c.args.to c.in-Some.changes.now c.reserve.new.self
    (sym c.in-Some.ensures.value) ((c.get_mut.follows.holds c.reserve.new.self).3 (ap is_some (sym c.in-Some.ensures.value))).0

pub returns-clause-known : goal.returns-clause-known
returns-clause-known c = sym (ap is_some (there c))

pub returns-clause-room : goal.returns-clause-room
returns-clause-room c = λ _. subst (λ o. 0 < room_of o) (sym (there c)) c.in_ok-reserve.ensures.ok
