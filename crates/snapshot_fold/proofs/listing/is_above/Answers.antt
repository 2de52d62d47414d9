use Rattle.std.proofs.Common.{◌-◌, length, sym, ap, ◌∙◌, arith}
use Rattle.std.specs.Ordering.{is_lt}
use Rattle.snapshot_fold.specs.meaning.Pieces.{is_above}
use Rattle.snapshot_fold.proofs.Lasts.{last_of-at}
use Rattle.snapshot_fold.proofs.listing.is_above.Goals as goal

pub returns-in-len1-up : goal.returns-in-len1-up
returns-in-len1-up c =
    c.is_lt.ensures ∙ ap is_lt c.cmp.ensures
    ∙ ap (λ last. is_above last c.args.piece.now)
    (sym (last_of-at c.args.before.now (length c.args.before.now - 1) c.last-item.result (omega (arith, c.in-len1-up.len_at_least)) c.last-item.is))
