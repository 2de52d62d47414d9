use Rattle.std.proofs.Common.{sym, ap, ◌∙◌, subst}
use Rattle.line_fields.specs.meaning.Fields.{words_of}
use Rattle.record_text.proofs.Pieces.{IsRead, IsRead-more, goes_on, goes_on-stops, goes_on-more}
use Rattle.record_text.proofs.read.read_piece.Goals as goal

pub returns-in_err-piece-2 : goal.returns-in_err-piece-2
returns-in_err-piece-2 c =
    let said = sym c.read_member-in-Some.ensures ∙ c.in_ok-member.was in
    c.from_residual-in_err-piece-2.ensures
    ∙ sym (goes_on-stops c.loop-word.piece c.loop-word.last c.in_ok-member.member c.in-Some.word.now (words_of c.in-Some.rest.now) c.loop-word.invariant.1 said c.in_err-piece-2.ensures)
    ∙ ap (goes_on c.loop-word.piece.members) (sym c.in-Some.ensures)
    ∙ c.loop-word.invariant.0

pub loop-word-preserved : goal.loop-word-preserved
loop-word-preserved c =
    let said = sym c.read_member-in-Some.ensures ∙ c.in_ok-member.was in
    let is = c.in_ok-piece-2.ensures.1 in (
      ap (λ p. goes_on p.members (words_of c.in-Some.rest.now)) is
          ∙ sym (goes_on-more c.loop-word.piece c.loop-word.last c.in_ok-member.member c.in-Some.word.now (words_of c.in-Some.rest.now) c.loop-word.invariant.1 said c.in_ok-piece-2.ensures.0)
          ∙ ap (goes_on c.loop-word.piece.members) (sym c.in-Some.ensures)
          ∙ c.loop-word.invariant.0,
      subst (λ p. IsRead p c.in_ok-member.member) (sym is) (IsRead-more c.loop-word.piece c.loop-word.last c.in_ok-member.member c.loop-word.invariant.1 c.in_ok-piece-2.ensures.0).0,
    )
