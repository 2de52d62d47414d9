use Rattle.std.proofs.Common.{ap, sym, ◌∙◌}
use Rattle.std.specs.FinMap as map
use Rattle.std.specs.Ordering.{nat_cmp}
use Rattle.std.proofs.lemmas.Bool.{eqb-true, eq-eqb}
use Rattle.graph_types.proofs.neighbours.Neighbours.is_empty.Goals as goal

pub returns : goal.returns
returns g c =
    (λ none. map.empty_of_len c.args.self.now (sym c.len.ensures ∙ eqb-true _ _ none), λ empty. eq-eqb _ 0 (c.len.ensures ∙ ap map.len empty ∙ map.len-empty nat_cmp g.row.V.Denot))
