use Rattle.std.proofs.Common.{ap, ◌∙◌}
use Rattle.std.specs.FinMap as map
use Rattle.graph_types.specs.meaning.Neighbourhood.{kept_among}
use Rattle.version_cell.specs.meaning.Cell.{pair_at}
use Rattle.version_cell.specs.meaning.Changes.{label_after}
use Rattle.version_cell.proofs.Around.{found-among}
use Rattle.version_cell.proofs.cell.Cell.pair_among.Goals as goal

pub returns : goal.returns
returns c =
    let cell = c.self.inside in
    let near = c.in_ok-list_among.ensures ∙ found-among cell.floor cell.label cell.label_changes (map.from_entries cell.near_changes.entries) cell.places c.self.invariant c.args.t c.args.among.now c.requires.ascending in
    (λ i. record { before = (c.label_after.ensures ∙ ap (label_after cell.label cell.label_changes.changes) c.previous.ensures) i; after = c.label_after-2.ensures i; near = near i }) ∙ ap (λ known. kept_among c.args.among.now (pair_at known c.args.t)) c.self.view_is
