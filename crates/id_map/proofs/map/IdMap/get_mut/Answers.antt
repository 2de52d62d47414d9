use borrow.Follows.Closed.{read_of}
use Rattle.std.proofs.Common.{◌≡◌, inr, ap, sym, ◌∙◌}
use Rattle.std.specs.FinMap as map
use Rattle.std.specs.Option.{ghost_name_of, option_and_then}
use Rattle.slab.proofs.SlabLemmas.{Updates-with_value}
use Rattle.slab.specs.Slab.{get, with_value}
use Rattle.id_map.specs.storage.Items.{all_items}
use Rattle.id_map.proofs.PlacedItems.{all_items-written, get-all_items}
use Rattle.id_map.proofs.map.IdMap.get_mut.Goals as goal

pub returns-in_err-place : goal.returns-in_err-place
returns-in_err-place g c =
    rw c.from_residual.ensures (
      ap inr c.self.view_is,
      record {
        writes_back = tt;
        value =
            ap (option_and_then (get c.self.inside.items)) c.in_err-place.ensures
            ∙ sym (get-all_items c.self.inside.items c.self.inside.places c.args.id)
            ∙ ap (λ m. map.get m c.args.id) c.self.view_is;
      },
    )

pub returns : goal.returns
returns g c =
    let items = c.self.inside.items in
    let places = c.self.inside.places in
    let place = c.in_ok-place.place in
    let at = sym c.in_ok-place.ensures in
    let there = c.self.invariant.occupied c.args.id place at in
    let written : (w : g.row.T.Denot) → all_items (with_value items place w) places ≡ map.insert c.args.self.now c.args.id w = λ w.
    all_items-written items (with_value items place w) places c.self.invariant c.args.id place w at (Updates-with_value items place w there)
    ∙ ap (λ m. map.insert m c.args.id w) c.self.view_is in (
      λ t. read_of (ghost_name_of c.get_mut.result) (λ (w : g.row.T.Denot). written w t) (c.self.view_is t),
      record {
        writes_back = tt;
        value =
            c.get_mut.ensures.value
            ∙ ap (option_and_then (get items)) c.in_ok-place.ensures
            ∙ sym (get-all_items items places c.args.id)
            ∙ ap (λ m. map.get m c.args.id) c.self.view_is;
      },
    )
