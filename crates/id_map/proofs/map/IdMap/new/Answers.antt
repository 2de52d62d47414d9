use Rattle.std.proofs.Common.{ap, sym, subst, ◌∙◌}
use Rattle.id_map.specs.storage.Items.{IsPlaced, all_items}
use Rattle.id_map.proofs.PlacedItems.{nothing, IsPlaced-nothing}
use Rattle.id_map.proofs.map.IdMap.new.Goals as goal

pub invariant_of-result : goal.invariant_of-result
invariant_of-result g c = subst (IsPlaced c.new-2.result) (sym c.new.ensures) (IsPlaced-nothing c.new-2.result)

pub returns : goal.returns
returns g c = ap (all_items c.new-2.result) c.new.ensures ∙ nothing c.new-2.result
