use Rattle.std.proofs.Common.{◌+◌, ◌∷◌, length, take, sym, ap, ◌∙◌, arith}
use Rattle.std.proofs.lemmas.Bool.{eqb-true, eqb-false}
use Rattle.line_fields.specs.meaning.Fields.{is_blank, words_of}
use Rattle.record_text.proofs.Words.{slice_split-at, slice_split-one, rest_all, words_of-begun, words_of-blanks}
use Rattle.record_text.proofs.read.split_word.Goals as goal

pub returns-then-is_empty : goal.returns-then-is_empty
returns-then-is_empty c =
    words_of-blanks c.args.line.now _ c.trim_start-line.ensures (eqb-true (length c.trim_start-line.result.now) 0 (sym c.is_empty.ensures ∙ c.if-is_empty.true))

pub returns-in-None : goal.returns-in-None
returns-in-None c =
    let begun = c.trim_start-line.result.now in
    let some = eqb-false (length begun) 0 (sym c.is_empty.ensures ∙ c.if-is_empty.false) in
    words_of-begun c.args.line.now begun _ _ c.trim_start-line.ensures (omega (arith, some)) (slice_split-one is_blank begun (sym c.in-None.ensures))

pub returns-in-Some : goal.returns-in-Some
returns-in-Some c =
    let begun = c.trim_start-line.result.now in
    let blank = c.in-Some.blank in
    let some = eqb-false (length begun) 0 (sym c.is_empty.ensures ∙ c.if-is_empty.false) in
    words_of-begun c.args.line.now begun _ _ c.trim_start-line.ensures (omega (arith, some)) (slice_split-at is_blank begun blank (sym c.in-Some.ensures)).1
    ∙ ap (λ rest. take blank begun ∷ words_of rest) (rest_all begun (blank + 1))
