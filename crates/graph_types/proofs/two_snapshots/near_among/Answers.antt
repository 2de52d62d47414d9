use Rattle.std.proofs.Common.{sym, subst, ◌∙◌}
use Rattle.std.specs.List.Sorted.{IsStrictlySortedBy}
use Rattle.std.specs.Ordering.{nat_cmp}
use Rattle.std.proofs.lemmas.Result.{IfOk-weaker}
use Rattle.graph_types.specs.storage.Ahead.{near_ends}
use Rattle.graph_types.proofs.Merging.{near_found-kept}
use Rattle.graph_types.proofs.Skipping.{near_of-ascends}
use Rattle.graph_types.proofs.two_snapshots.near_among.Goals as goal

pub returns-then-among-max : goal.returns-then-among-max
returns-then-among-max c = IfOk-weaker c.look_up.result _ _ (λ near is. is ∙ near_found-kept _ _ c.args.among.now c.requires) c.look_up.ensures

pub list_among-requires-clause-merged : goal.list_among-requires-clause-merged
list_among-requires-clause-merged c = subst (λ ns. IsStrictlySortedBy nat_cmp (near_ends ns)) (sym c.of-merge.ensures) (near_of-ascends c.cursor_of.result c.cursor_of-2.result)
