use Rattle.std.specs.List.Sorted.{IsStrictlySortedBy}
use Rattle.base_tables.proofs.graphs.Graph.fetch.Goals as goal

pub fetch_among-pair-requires : goal.fetch_among-pair-requires
unfolding IsStrictlySortedBy
fetch_among-pair-requires c = (tt, tt)
