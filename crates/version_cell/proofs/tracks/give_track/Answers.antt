use Rattle.std.proofs.Common.{◌≡◌, ◌<◌, ◌≤◌, None, Some, refl, sym, ap, subst, ◌∙◌, arith}
use Rattle.std.specs.Cmp.{nat_cmp_total}
use Rattle.std.specs.FinMap as map
use Rattle.std.specs.Ordering.{nat_cmp}
use Rattle.graph_types.proofs.Views.{insert-seen, none_from}
use Rattle.version_cell.specs.meaning.Cell.{changes_of, room_of}
use Rattle.version_cell.specs.storage.Tracks.{KeepsTracks}
use Rattle.version_cell.proofs.KeptTracks.{KeepsTracks-insert, KeepsTracks-same, get-inserted}
use Rattle.version_cell.proofs.tracks.give_track.Goals as goal

pub returns-in_err-reserve-clause-kept : goal.returns-in_err-reserve-clause-kept
returns-in_err-reserve-clause-kept c = KeepsTracks-same _ _ c.args.to refl

pub returns-in_err-insert-clause-kept : goal.returns-in_err-insert-clause-kept
returns-in_err-insert-clause-kept c = KeepsTracks-same _ _ c.args.to (ap (map.from_entries {R = nat_cmp}) c.in_err-insert.ensures.err)

pub returns-clause-kept : goal.returns-clause-kept
returns-clause-kept c =
    let put = ap (map.from_entries {R = nat_cmp}) c.in_ok-insert.ensures.entries ∙ insert-seen nat_cmp_total map.nat_cmp-IsAntisymmetric c.args.near.now.entries c.args.to c.reserve.new.self in
    let absent : map.get (map.from_entries {R = nat_cmp} c.args.near.now.entries) c.args.to ≡ None = none_from _ c.requires in
    let little : room_of None ≤ c.reserve.new.self.room = omega arith in
    subst (λ m. KeepsTracks (map.from_entries c.args.near.now.entries) m c.args.to) (sym put)
    (KeepsTracks-insert (map.from_entries c.args.near.now.entries) c.args.to c.reserve.new.self
    (c.reserve.ensures.same ∙ c.new-changes.ensures ∙ ap changes_of (sym absent))
    (subst (λ o. room_of o ≤ c.reserve.new.self.room) (sym absent) little))

pub returns-clause-ok : goal.returns-clause-ok
returns-clause-ok c =
    let put = ap (map.from_entries {R = nat_cmp}) c.in_ok-insert.ensures.entries ∙ insert-seen nat_cmp_total map.nat_cmp-IsAntisymmetric c.args.near.now.entries c.args.to c.reserve.new.self in
    let there : map.get (map.from_entries {R = nat_cmp} c.insert.new.self.entries) c.args.to ≡ Some c.reserve.new.self =
    ap (λ m. map.get m c.args.to) put ∙ get-inserted (map.from_entries c.args.near.now.entries) c.args.to c.reserve.new.self in
    subst (λ o. 0 < room_of o) (sym there) c.in_ok-reserve.ensures.ok
