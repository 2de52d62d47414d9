use Rattle.std.proofs.Common.{ap, ◌∙◌}
use Rattle.std.specs.Option.{is_none}
use Rattle.snapshot_fold.specs.meaning.FoldState.{last_new}
use Rattle.snapshot_fold.proofs.Lasts.{none_if_empty}
use Rattle.snapshot_fold.proofs.fold.Fold.nothing_came.Goals as goal

pub returns : goal.returns
returns c = none_if_empty c.self.inside.came _ c.is_empty.ensures ∙ ap (λ s. is_none (last_new s)) c.self.view_is
