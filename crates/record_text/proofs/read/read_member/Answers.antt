use Rattle.std.proofs.Common.{sym, ap, ◌∙◌}
use Rattle.record_text.specs.meaning.Grammar.{member_of_parts}
use Rattle.record_text.proofs.Words.{member_of-id, member_of_parts-more}
use Rattle.record_text.proofs.read.read_member.Goals as goal

pub returns-in-Some : goal.returns-in-Some
returns-in-Some c = sym (member_of-id c.args.word.now c.in-Some.id (sym c.in-Some.ensures))

pub returns : goal.returns
returns c =
    c.read_edge.ensures
    ∙ sym (member_of_parts-more c.in_ok-low.low.now c.in_ok-low.high.now)
    ∙ ap member_of_parts (sym c.in_ok-low.ensures)
