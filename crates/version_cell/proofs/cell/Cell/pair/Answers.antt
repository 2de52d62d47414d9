use Rattle.std.proofs.Common.{ap, ◌∙◌}
use Rattle.std.specs.FinMap as map
use Rattle.version_cell.specs.meaning.Cell.{pair_at}
use Rattle.version_cell.specs.meaning.Changes.{label_after}
use Rattle.version_cell.proofs.Around.{listed-near_of}
use Rattle.version_cell.proofs.cell.Cell.pair.Goals as goal

pub returns : goal.returns
returns c =
    let cell = c.self.inside in
    let near = c.in_ok-list.ensures ∙ listed-near_of cell.floor cell.label cell.label_changes (map.from_entries cell.near_changes.entries) cell.places c.self.invariant c.args.t in
    (λ i. record { before = (c.label_after.ensures ∙ ap (label_after cell.label cell.label_changes.changes) c.previous.ensures) i; after = c.label_after-2.ensures i; near = near i }) ∙ ap (λ known. pair_at known c.args.t) c.self.view_is
