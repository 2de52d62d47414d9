use Rattle.std.proofs.Common.{sym, ◌∙◌}
use Rattle.line_fields.specs.meaning.Fields.{words_of}
use Rattle.update_reader.proofs.LineWords.{three_words, four_words, Reads-words}
use Rattle.update_reader.proofs.read_line.Goals as goal

pub returns-in-3 : goal.returns-in-3
returns-in-3 c =
    Reads-words c.args.names.now c.args.line.now c.in-Some.first.now _ c.in-Some-read_keyword.keyword _ _
    (sym c.is_nothing.ensures ∙ c.if-is_nothing.false)
    (three_words (words_of c.args.line.now) _ _ _ (sym c.words.ensures ∙ c.in-3.is) (sym c.in-Some.ensures) (sym c.word_at-in-3.ensures) (sym c.word_at-in-3-2.ensures))
    c.in-Some-read_keyword.ensures
    c.read_three.ensures

pub returns-in-4 : goal.returns-in-4
returns-in-4 c =
    Reads-words c.args.names.now c.args.line.now c.in-Some.first.now _ c.in-Some-read_keyword.keyword _ _
    (sym c.is_nothing.ensures ∙ c.if-is_nothing.false)
    (four_words (words_of c.args.line.now) _ _ _ _ (sym c.words.ensures ∙ c.in-4.is) (sym c.in-Some.ensures) (sym c.word_at-in-4.ensures) (sym c.word_at-in-4-2.ensures) (sym c.word_at-in-4-3.ensures))
    c.in-Some-read_keyword.ensures
    c.read_four.ensures
