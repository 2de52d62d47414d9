use Rattle.std.proofs.Common.{ap, sym, subst, ◌∙◌}
use Rattle.std.specs.FinMap as map
use Rattle.std.specs.Option.{option_and_then}
use Rattle.slab.specs.Slab.{get}
use Rattle.id_map.specs.storage.Items.{IsPlaced, all_items}
use Rattle.id_map.proofs.OneChange.{remove-absent}
use Rattle.id_map.proofs.PlacedItems.{all_items-absent, all_items-taken, get-all_items, IsPlaced-taken}
use Rattle.id_map.proofs.map.IdMap.remove.Goals as goal

pub invariant_of-self : goal.invariant_of-self
invariant_of-self g c =
    subst (IsPlaced c.self.inside.items) (sym (c.in_err-place.ensures.rest ∙ remove-absent c.self.inside.places c.args.id (sym c.in_err-place.ensures.taken))) c.self.invariant

pub returns-in_err-place-clause-value : goal.returns-in_err-place-clause-value
returns-in_err-place-clause-value g c =
    c.from_residual.ensures
    ∙ ap (option_and_then (get c.self.inside.items)) c.in_err-place.ensures.taken
    ∙ sym (get-all_items c.self.inside.items c.self.inside.places c.args.id)
    ∙ ap (λ m. map.get m c.args.id) c.self.view_is

pub returns-in_err-place-clause-rest : goal.returns-in_err-place-clause-rest
returns-in_err-place-clause-rest g c =
    ap (all_items c.self.inside.items) c.in_err-place.ensures.rest
    ∙ all_items-absent c.self.inside.items c.self.inside.places c.args.id (sym c.in_err-place.ensures.taken)
    ∙ ap (λ m. map.remove m c.args.id) c.self.view_is

pub invariant_of-self-2 : goal.invariant_of-self-2
invariant_of-self-2 g c =
    subst (IsPlaced c.try_remove.new.self) (sym c.in_ok-place.ensures.rest)
    (IsPlaced-taken c.self.inside.items c.try_remove.new.self c.self.inside.places c.self.invariant c.args.id c.in_ok-place.place (sym c.in_ok-place.ensures.taken) c.try_remove.ensures.updates)

pub returns-clause-value : goal.returns-clause-value
returns-clause-value g c =
    c.try_remove.ensures.value
    ∙ ap (option_and_then (get c.self.inside.items)) c.in_ok-place.ensures.taken
    ∙ sym (get-all_items c.self.inside.items c.self.inside.places c.args.id)
    ∙ ap (λ m. map.get m c.args.id) c.self.view_is

pub returns-clause-rest : goal.returns-clause-rest
returns-clause-rest g c =
    ap (all_items c.try_remove.new.self) c.in_ok-place.ensures.rest
    ∙ all_items-taken c.self.inside.items c.try_remove.new.self c.self.inside.places c.self.invariant c.args.id c.in_ok-place.place (sym c.in_ok-place.ensures.taken) c.try_remove.ensures.updates
    ∙ ap (λ m. map.remove m c.args.id) c.self.view_is
