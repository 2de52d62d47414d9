use Rattle.std.proofs.Common.{sym, ap, ◌∙◌}
use Rattle.std.proofs.lemmas.Bool.{false≢true}
use Rattle.version_cell.proofs.NoEdges.{no_entries}
use Rattle.version_cell.proofs.cell.Cell.is_empty.Goals as goal

pub returns-else-is_empty : goal.returns-else-is_empty
returns-else-is_empty c = (
  λ is. absurd (false≢true (sym c.if-is_empty.false ∙ is)),
  λ nothing. c.is_empty.ensures.1 (no_entries c.self.inside.near_changes.entries (ap (λ cell. cell.near) c.self.view_is ∙ nothing.near_changes)),
)
