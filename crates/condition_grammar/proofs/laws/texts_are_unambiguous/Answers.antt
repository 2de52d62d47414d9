use Rattle.std.proofs.Common.{ap, sym, ◌∙◌}
use Rattle.line_fields.specs.meaning.Names.{Names}
use Rattle.conditions.specs.declared.condition.Cond.{Cond}
use Rattle.condition_grammar.proofs.Completing.{says-condition_of}
use Rattle.condition_grammar.proofs.Productions.{ok_same}
use Rattle.condition_grammar.proofs.laws.texts_are_unambiguous.Goals as goal

pub returns : goal.returns
returns c text names x y after later first second =
    let same = ok_same (sym (says-condition_of text names x after first) ∙ says-condition_of text names y later second) in
    (ap (λ (p : Cond × Names). p.0) same, ap (λ (p : Cond × Names). p.1) same)
