use Rattle.std.proofs.Common.{Some, ap, sym, subst, ◌∙◌}
use Rattle.std.specs.FinMap as map
use Rattle.slab.specs.Slab.{get}
use Rattle.id_map.specs.storage.Items.{IsPlaced, all_items}
use Rattle.id_map.proofs.PlacedItems.{all_items-added, IsPlaced-added, Updates-after}
use Rattle.id_map.proofs.map.IdMap.add.Goals as goal

pub invariant_of-self-2 : goal.invariant_of-self-2
invariant_of-self-2 g c =
    let added = Updates-after c.self.inside.items c.reserve.new.self c.insert_reserved.new.self c.vacant_key.result (Some c.args.item) c.reserve.ensures.rest_kept (c.insert_reserved.ensures.key ∙ sym c.vacant_key.ensures.value) c.insert_reserved.ensures.updates in
    let vacant = sym (ap (λ s. get s c.vacant_key.result) c.reserve.ensures.rest_kept) ∙ c.vacant_key.ensures.vacant in
    subst (IsPlaced c.insert_reserved.new.self) (sym c.in_ok-put.ensures.ok)
    (IsPlaced-added c.self.inside.items c.insert_reserved.new.self c.self.inside.places c.self.invariant c.args.id c.vacant_key.result c.args.item vacant added)

pub returns-clause-ok : goal.returns-clause-ok
returns-clause-ok g c =
    let added = Updates-after c.self.inside.items c.reserve.new.self c.insert_reserved.new.self c.vacant_key.result (Some c.args.item) c.reserve.ensures.rest_kept (c.insert_reserved.ensures.key ∙ sym c.vacant_key.ensures.value) c.insert_reserved.ensures.updates in
    let vacant = sym (ap (λ s. get s c.vacant_key.result) c.reserve.ensures.rest_kept) ∙ c.vacant_key.ensures.vacant in
    ap (all_items c.insert_reserved.new.self) c.in_ok-put.ensures.ok
    ∙ all_items-added c.self.inside.items c.insert_reserved.new.self c.self.inside.places c.self.invariant c.args.id c.vacant_key.result c.args.item vacant added
    ∙ ap (λ m. map.insert m c.args.id c.args.item) c.self.view_is
