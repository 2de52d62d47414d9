use Rattle.std.proofs.Common.{Some, get_or, ap, sym, ◌∙◌}
use Rattle.std.specs.List.{remove}
use Rattle.std.proofs.lemmas.Option.{get_or_from_slice_get}
use Rattle.graph_types.proofs.FewPairs.{find-at_place, remove-at_place, remove-absent, find-absent}
use Rattle.graph_types.proofs.few.take.Goals as goal

pub returns-clause-taken : goal.returns-clause-taken
returns-clause-taken g c =
    let sought = rw c.deref.ensures.value at c.in-Ok.ensures in
    let few = c.args.few.now.items in
    ap (λ n. Some n.1) c.remove-value.ensures.value
    ∙ ap (λ i. Some (get_or few i c.remove-value.result).1) sought.0
    ∙ ap (λ n. Some n.1) (get_or_from_slice_get few _ (c.args.to, sought.1.0) c.remove-value.result sought.1.1)
    ∙ sym (find-at_place c.args.to few sought.1.0 sought.1.1)

pub returns-clause-rest : goal.returns-clause-rest
returns-clause-rest g c =
    let sought = rw c.deref.ensures.value at c.in-Ok.ensures in
    c.remove-value.ensures.items ∙ ap (remove c.args.few.now.items) sought.0 ∙ remove-at_place c.args.to c.args.few.now.items sought.1.0 sought.1.1

pub returns-in_default-clause-taken : goal.returns-in_default-clause-taken
returns-in_default-clause-taken g c =
    let sought = rw c.deref.ensures.value at c.in_default.ensures in
    sym (find-absent c.args.to c.args.few.now.items c.requires sought.1)

pub returns-in_default-clause-rest : goal.returns-in_default-clause-rest
returns-in_default-clause-rest g c =
    let sought = rw c.deref.ensures.value at c.in_default.ensures in
    sym (remove-absent c.args.to c.args.few.now.items (find-absent c.args.to c.args.few.now.items c.requires sought.1))
