use Rattle.std.proofs.Common.{sym, ap, subst, ◌∙◌}
use Rattle.std.specs.List.{AllByRecursion}
use Rattle.shared_lemmas.proofs.Claims.{all-remove_key}
use Rattle.snapshot_fold.specs.meaning.Pieces.{has_piece, without_piece}
use Rattle.snapshot_fold.specs.storage.Held.{IsKept, pieces_kept}
use Rattle.snapshot_fold.specs.storage.Packed.{HasFew}
use Rattle.snapshot_fold.proofs.Holding.{absent_long, without-absent}
use Rattle.snapshot_fold.proofs.held.HeldPieces.remove.Goals as goal
use Rattle.snapshot_fold.proofs.held.HeldPieces.remove.Goals.{in-Packed+in-Some, in-Packed+in-None, in-Long}

pub invariant_of-self : goal.invariant_of-self
invariant_of-self c = elim c.match-self.branch [
  | in-Packed+in-Some w ↦
      subst (λ s. IsKept s.kept) (sym w.self-inside-is)
      (subst (AllByRecursion HasFew) (sym w.remove.ensures.keys) (all-remove_key HasFew _ w.in-Packed.pieces.keys (subst IsKept w.in-Packed.is c.self.invariant)))
  | in-Packed+in-None w ↦ subst (λ s. IsKept s.kept) (sym w.self-inside-is) (subst IsKept w.in-Packed.is c.self.invariant)
  | in-Long w ↦ subst (λ s. IsKept s.kept) (sym w.self-inside-is) tt
]

pub returns-clause-test : goal.returns-clause-test
returns-clause-test c = elim c.match-self.branch [
  | in-Packed+in-Some w ↦
      let held = sym (ap pieces_kept w.in-Packed.is) ∙ c.self.view_is in
      w.result-is ∙ w.remove.ensures.test ∙ (λ i. has_piece (held i) (w.in-Some.ensures.1 i))
  | in-Packed+in-None w ↦
      let held = sym (ap pieces_kept w.in-Packed.is) ∙ c.self.view_is in
      w.result-is
      ∙ sym (absent_long w.in-Packed.pieces.keys c.args.piece.now (subst IsKept w.in-Packed.is c.self.invariant) w.in-None.ensures)
      ∙ ap (λ pieces. has_piece pieces c.args.piece.now) held
  | in-Long w ↦
      let held = sym (ap pieces_kept w.in-Long.is) ∙ c.self.view_is in
      w.result-is ∙ w.remove-in-Long.ensures.test ∙ ap (λ pieces. has_piece pieces c.args.piece.now) held
]

pub returns-clause-keys : goal.returns-clause-keys
returns-clause-keys c = elim c.match-self.branch [
  | in-Packed+in-Some w ↦
      let held = sym (ap pieces_kept w.in-Packed.is) ∙ c.self.view_is in
      ap (λ s. pieces_kept s.kept) w.self-inside-is ∙ w.remove.ensures.keys ∙ (λ i. without_piece (held i) (w.in-Some.ensures.1 i))
  | in-Packed+in-None w ↦
      let held = sym (ap pieces_kept w.in-Packed.is) ∙ c.self.view_is in
      ap (λ s. pieces_kept s.kept) w.self-inside-is
      ∙ sym (without-absent w.in-Packed.pieces.keys c.args.piece.now (absent_long w.in-Packed.pieces.keys c.args.piece.now (subst IsKept w.in-Packed.is c.self.invariant) w.in-None.ensures))
      ∙ ap (λ pieces. without_piece pieces c.args.piece.now) held
  | in-Long w ↦
      let held = sym (ap pieces_kept w.in-Long.is) ∙ c.self.view_is in
      ap (λ s. pieces_kept s.kept) w.self-inside-is ∙ w.remove-in-Long.ensures.keys ∙ ap (λ pieces. without_piece pieces c.args.piece.now) held
]
