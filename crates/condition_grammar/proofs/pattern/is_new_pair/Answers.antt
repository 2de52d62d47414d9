use Rattle.std.proofs.Common.{not, ◌&&◌, sym, ap, ◌∙◌}
use Rattle.std.specs.List.{list_any}
use Rattle.std.proofs.lemmas.Bool.{ne_eqb}
use Rattle.conditions.specs.meaning.Fits.{has_numbers}
use Rattle.condition_grammar.proofs.pattern.is_new_pair.Goals as goal

pub returns-then-one-other : goal.returns-then-one-other
returns-then-one-other c =
    ap not c.joins.ensures ∙ sym (ap (λ b. not b && not (list_any (has_numbers c.args.one c.args.other) c.args.edges.now)) (ne_eqb c.args.one c.args.other c.if-one-other.true))
