use Rattle.std.proofs.Common.{filter}
use Rattle.graph_types.specs.meaning.Neighbourhood.{leads_among}
use Rattle.graph_types.proofs.Skipping.{IsListing}
use Rattle.graph_types.proofs.merge.list_among.Given as goal

abbrev pub invariant-loop-near : goal.invariant-loop-near
invariant-loop-near l = IsListing l.list l.near-iterator l.rest (filter (leads_among l.among) l.fn.merge)
