use Rattle.std.proofs.Common.{sym, ◌∙◌}
use Rattle.std.proofs.lemmas.Bool.{and_parts}
use Rattle.snapshot_fold.proofs.Lasts.{none_last}
use Rattle.snapshot_fold.proofs.fold.Fold.take_rem.Goals as goal

pub take_out-requires-clause-first : goal.take_out-requires-clause-first
take_out-requires-clause-first c =
    let in_order = and_parts _ _ (sym c.goes_in_order.ensures ∙ c.if-not-goes_in_order.false) in
    none_last c.args.self.now.came (and_parts _ _ in_order.0).1
