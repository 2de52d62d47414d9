use Rattle.std.proofs.Common.{◌-◌, length, slice_get, ap, sym, ◌∙◌}
use Rattle.std.specs.Cmp.{nat_cmp_total}
use Rattle.std.specs.FinMap as map
use Rattle.std.specs.Option.{is_some}
use Rattle.graph_types.specs.storage.Kept.{map_of}
use Rattle.graph_types.proofs.FewPairs.{found-at}
use Rattle.graph_types.proofs.Views.{get-seen}
use Rattle.graph_types.proofs.neighbours.Neighbours.last.Goals as goal

pub returns-in_ok-v-in-Few : goal.returns-in_ok-v-in-Few
returns-in_ok-v-in-Few g c =
    let few = c.in-Few.few.items in
    let n = c.in_ok-v-in-Few.field-0.now in
    ap is_some
    (ap (λ m. map.get m n.0) (sym c.self.view_is)
    ∙ ap (λ kept. map.get (map_of kept) n.0) c.in-Few.is
    ∙ map.get-from_entries nat_cmp_total few n.0)
    ∙ found-at few (length few - 1) n (ap (λ pairs. slice_get pairs (length pairs - 1)) (sym c.deref.ensures.value) ∙ sym c.in_ok-v-in-Few.ensures.value)

pub returns-in_ok-v-in-Many : goal.returns-in_ok-v-in-Many
returns-in_ok-v-in-Many g c =
    let v = c.in_ok-v-in-Many.v.now in
    ap is_some
    (ap (λ m. map.get m v) (sym c.self.view_is)
    ∙ ap (λ kept. map.get (map_of kept) v) c.in-Many.is
    ∙ sym (get-seen nat_cmp_total v c.in-Many.many.entries)
    ∙ c.in_ok-v-in-Many.ensures.value)
