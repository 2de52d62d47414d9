use Rattle.std.proofs.Common.{◌≡◌, ◌∷◌, ◌++◌, sym, ap, ◌∙◌}
use Rattle.snapshot_fold.proofs.Holding.{moved}
use Rattle.snapshot_fold.proofs.held.unpacked.Goals as goal

pub loop-piece-preserved : goal.loop-piece-preserved
loop-piece-preserved c =
    let done = c.loop-piece.long.keys in
    let rest = c.next.new.self in
    let first : c.loop-piece.piece-iterator ≡ c.in-Some.piece.now ∷ rest = c.in-Some.ensures.steps in
    moved c.args.packed.now.keys done rest c.insert.new.self.keys c.piece.result c.iter-piece-items.ensures.ordered
    (ap (λ p. done ++ p ∷ rest) c.piece.ensures ∙ ap (λ pieces. done ++ pieces) (sym first) ∙ c.loop-piece.invariant) c.in_ok-insert.ensures.keys
