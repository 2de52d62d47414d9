use Rattle.std.proofs.Common.{None, Some, ap, sym, ◌∙◌, ◌≡◌}
use Rattle.std.specs.Cmp.{nat_cmp_total}
use Rattle.std.specs.FinMap as map
use Rattle.std.specs.Ordering.{nat_cmp}
use Rattle.graph_types.proofs.Views.{get-seen}
use Rattle.version_cell.specs.storage.Around.{edge_with}
use Rattle.version_cell.proofs.tracks.near_around.Goals as goal

pub returns-in-None : goal.returns-in-None
returns-in-None c =
    let absent : map.get (map.from_entries {R = nat_cmp} c.args.near.now.entries) c.args.to ≡ None = sym (get-seen nat_cmp_total _ _) ∙ sym c.in-None.ensures.value in
    ap (λ track. edge_with track c.args.t (c.args.to, c.args.at_floor.now)) (sym absent)

pub returns-in-Some : goal.returns-in-Some
returns-in-Some c =
    let there : map.get (map.from_entries {R = nat_cmp} c.args.near.now.entries) c.args.to ≡ Some c.in-Some.changes.now = sym (get-seen nat_cmp_total _ _) ∙ sym c.in-Some.ensures.value in
    c.around.ensures ∙ ap (λ track. edge_with track c.args.t (c.args.to, c.args.at_floor.now)) (sym there)
