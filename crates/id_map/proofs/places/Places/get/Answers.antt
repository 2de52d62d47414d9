use Rattle.std.proofs.Common.{ap, sym, ◌∙◌, arith}
use Rattle.std.specs.FinMap as map
use Rattle.std.proofs.lemmas.List.{get_or_read}
use Rattle.id_map.specs.storage.Places.{place_told}
use Rattle.id_map.proofs.ToldPlaces.{get-near, get-far}
use Rattle.id_map.proofs.places.Places.get.Goals as goal

pub returns-then-at-len : goal.returns-then-at-len
returns-then-at-len c =
    let near = c.self.inside.near.items in
    let ok = c.self.inside.near.ok.0 in
    c.told.ensures
    ∙ ap place_told (get_or_read near c.args.id _ (omega (arith, ok, c.len.ensures, c.if-at-len.true)) c.index.ensures 0)
    ∙ sym (get-near near c.self.inside.far.entries c.args.id c.self.invariant (omega (arith, ok, c.len.ensures, c.if-at-len.true)))
    ∙ ap (λ m. map.get m c.args.id) c.self.view_is

pub returns-in_ok-place : goal.returns-in_ok-place
returns-in_ok-place c =
    c.in_ok-place.ensures.value
    ∙ sym (get-far c.self.inside.near.items c.self.inside.far.entries c.args.id (omega (arith, c.self.inside.near.ok.0, c.len.ensures, c.if-at-len.false)))
    ∙ ap (λ m. map.get m c.args.id) c.self.view_is

pub returns-in_err-place : goal.returns-in_err-place
returns-in_err-place c =
    c.from_residual.ensures
    ∙ c.in_err-place.ensures.value
    ∙ sym (get-far c.self.inside.near.items c.self.inside.far.entries c.args.id (omega (arith, c.self.inside.near.ok.0, c.len.ensures, c.if-at-len.false)))
    ∙ ap (λ m. map.get m c.args.id) c.self.view_is
