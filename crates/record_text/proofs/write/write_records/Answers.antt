use Rattle.std.proofs.Common.{◌∙◌, arith}
use Rattle.std.proofs.lemmas.Result.{err_from_is_err_and}
use Rattle.record_text.specs.meaning.Text.{record_line}
use Rattle.record_text.proofs.Members.{line_begun}
use Rattle.record_text.proofs.PieceLines.{passed-more, fails-at}
use Rattle.record_text.proofs.write.write_records.Goals as goal

pub returns-in_err-put-clause-text : goal.returns-in_err-put-clause-text
returns-in_err-put-clause-text g c =
    let p = err_from_is_err_and c.from_residual.result c.from_residual.ensures.1 in
    let front = fails-at (record_line c.args.word.now c.args.t) c.args.pieces.now c.loop-piece.piece-index c.piece-item.result c.deref-in-loop-piece.result.now _ _ _ _ _
    c.loop-piece-test.true c.piece-item.is (c.deref-in-loop-piece.ensures ∙ line_begun _ _ _ _ _ (c.deref.ensures ∙ c.fill_start.ensures.text) c.fill_record.ensures) c.loop-piece.invariant.0 c.in_err-put.ensures.gathered.front in
    rw p.1 (record { passed = tt; front = front })

pub loop-piece-preserved : goal.loop-piece-preserved
loop-piece-preserved g c = (
  passed-more (record_line c.args.word.now c.args.t) c.args.pieces.now c.loop-piece.piece-index c.piece-item.result c.deref-in-loop-piece.result.now _ _ _ _ _ _
      c.loop-piece-test.true c.piece-item.is (c.deref-in-loop-piece.ensures ∙ line_begun _ _ _ _ _ (c.deref.ensures ∙ c.fill_start.ensures.text) c.fill_record.ensures) c.loop-piece.invariant.0 c.in_ok-put.ensures.gathered.passed,
  omega (arith, c.loop-piece.invariant.1, c.in_ok-put.ensures.cause.kept),
)
