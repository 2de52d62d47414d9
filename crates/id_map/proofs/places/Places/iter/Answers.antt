use Rattle.std.proofs.Common.{ap, sym, ◌∙◌}
use Rattle.std.specs.FinMap as map
use Rattle.id_map.proofs.ToldPlaces.{entries-all_places}
use Rattle.id_map.proofs.places.Places.iter.Goals as goal

pub returns : goal.returns
returns c =
    c.of.ensures.rest
    ∙ sym (entries-all_places c.self.inside.near.items c.self.inside.far.entries c.self.invariant c.of.ensures.ordered)
    ∙ ap map.entries c.self.view_is
