use Rattle.std.proofs.Common.{◌<◌, Some, length, get_or, ap, sym, subst, ◌∙◌}
use Rattle.std.proofs.lemmas.Option.{get_or_from_slice_get}
use Rattle.graph_types.proofs.FewPairs.{place-in_range, find-at_place, find-absent}
use Rattle.graph_types.proofs.few.get.Goals as goal

pub bounds-few-at : goal.bounds-few-at
bounds-few-at g c = subst (λ i. i < length c.args.few.now) (sym c.in-Ok.ensures.0) (place-in_range c.args.to c.args.few.now c.in-Ok.ensures.1)

pub returns : goal.returns
returns g c =
    let stands = c.in-Ok.ensures.1 in
    let few = c.args.few.now in
    ap (λ i. Some (get_or few i c.index-few-at.result).1) c.in-Ok.ensures.0
    ∙ ap (λ n. Some n.1) (get_or_from_slice_get few _ (c.args.to, stands.0) c.index-few-at.result stands.1)
    ∙ sym (find-at_place c.args.to few stands.0 stands.1)

pub returns-in_default : goal.returns-in_default
returns-in_default g c = sym (find-absent c.args.to c.args.few.now c.requires c.in_default.ensures.1)
