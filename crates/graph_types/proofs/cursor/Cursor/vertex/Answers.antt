use Rattle.graph_types.proofs.Ahead.{lowest-ahead}
use Rattle.graph_types.proofs.cursor.Cursor.vertex.Goals as goal

pub returns : goal.returns
returns c = lowest-ahead c.self.inside.first _ _ c.self.view_is c.self.invariant _ c.in_ok-v.was
