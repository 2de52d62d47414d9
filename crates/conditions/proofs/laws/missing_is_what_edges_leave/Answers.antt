use Rattle.conditions.proofs.MissingPairs.{missing_and_edges}
use Rattle.conditions.proofs.laws.missing_is_what_edges_leave.Goals as goal

pub returns : goal.returns
returns c = missing_and_edges
