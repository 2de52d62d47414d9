use Rattle.std.proofs.Common.{length, ap, sym, ◌∙◌}
use Rattle.std.specs.FinMap as map
use Rattle.std.proofs.iter.runs.Sources.{from_front}
use Rattle.std.specs.Map.Iter.{TakesFirst, ShowsInOrder}
use Rattle.id_map.specs.calls.Entry.{entry_of}
use Rattle.id_map.specs.storage.Items.{items_at}
use Rattle.id_map.proofs.PlacedItems.{entries-all_items}
use Rattle.id_map.proofs.map.IdMap.iter.Goals as goal

pub returns-clause-rest : goal.returns-clause-rest
returns-clause-rest g c =
    c.of.ensures
    ∙ ap (items_at c.self.inside.items) c.iter.ensures
    ∙ sym (entries-all_items c.self.inside.items c.self.inside.places)
    ∙ ap map.entries c.self.view_is

gives_in_order : {T : Type 0} → ShowsInOrder (entry_of {T = T})
gives_in_order = from_front (TakesFirst entry_of) entry_of (λ s. s) (λ s t h. ap length h.0) (λ s x t h. h)

pub returns-clause-runs : goal.returns-clause-runs
returns-clause-runs g c = gives_in_order
