use Rattle.std.proofs.Common.{ap, sym, ◌∙◌}
use Rattle.std.specs.FinMap as map
use Rattle.std.specs.Option.{option_and_then, option_copied}
use Rattle.slab.specs.Slab.{get}
use Rattle.id_map.proofs.PlacedItems.{get-all_items}
use Rattle.id_map.proofs.map.IdMap.get.Goals as goal

pub returns : goal.returns
returns g c =
    c.get-2.ensures
    ∙ ap (option_and_then (get c.self.inside.items)) c.in_ok-place.ensures
    ∙ sym (get-all_items c.self.inside.items c.self.inside.places c.args.id)
    ∙ ap (λ m. map.get m c.args.id) c.self.view_is

pub returns-in_err-place : goal.returns-in_err-place
returns-in_err-place g c =
    ap option_copied c.from_residual.ensures
    ∙ ap (option_and_then (get c.self.inside.items)) c.in_err-place.ensures
    ∙ sym (get-all_items c.self.inside.items c.self.inside.places c.args.id)
    ∙ ap (λ m. map.get m c.args.id) c.self.view_is
