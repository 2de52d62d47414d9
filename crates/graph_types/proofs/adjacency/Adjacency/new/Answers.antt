use Rattle.graph_types.proofs.Rows.{graph-no_rows}
use Rattle.graph_types.proofs.adjacency.Adjacency.new.Goals as goal

pub returns : goal.returns
returns c = rw c.new.ensures graph-no_rows
