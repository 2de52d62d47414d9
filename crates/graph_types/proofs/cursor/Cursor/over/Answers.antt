use Rattle.std.proofs.Common.{ap, sym, subst, ◌∙◌}
use Rattle.std.specs.FinMap as map
use Rattle.graph_types.specs.storage.Few.{IsAscending}
use Rattle.graph_types.proofs.Ahead.{from-entries}
use Rattle.graph_types.proofs.cursor.Cursor.over.Goals as goal
use Rattle.shared_lemmas.proofs.FiniteMaps.{keys_rise}

pub invariant_of-result : goal.invariant_of-result
invariant_of-result c = subst IsAscending (sym (c.step-first.ensures ∙ c.iter-rest.ensures.rest)) (keys_rise c.args.near.now)

pub returns : goal.returns
returns c = ap map.from_entries (c.step-first.ensures ∙ c.iter-rest.ensures.rest) ∙ from-entries c.args.near.now
