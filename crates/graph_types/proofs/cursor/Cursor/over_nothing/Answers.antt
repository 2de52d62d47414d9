use Rattle.std.specs.Ordering.{nat_cmp}
use Rattle.graph_types.proofs.cursor.Cursor.over_nothing.Goals as goal
use Rattle.shared_lemmas.proofs.Ascending.{sorted-none}

pub invariant_of-result : goal.invariant_of-result
invariant_of-result c = sorted-none nat_cmp
