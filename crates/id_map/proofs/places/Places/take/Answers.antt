use Rattle.std.proofs.Common.{ap, sym, ◌∙◌, arith}
use Rattle.std.specs.FinMap as map
use Rattle.std.proofs.lemmas.List.{get_or_read}
use Rattle.id_map.specs.storage.Places.{place_told}
use Rattle.id_map.proofs.ToldPlaces.{get-near, get-far, near-taken, far-taken}
use Rattle.id_map.proofs.places.Places.take.Goals as goal

pub returns-then-at-len-clause-taken : goal.returns-then-at-len-clause-taken
returns-then-at-len-clause-taken c =
    let near = c.self.inside.near.items in
    let ok = c.self.inside.near.ok.0 in
    c.told.ensures
    ∙ ap place_told (get_or_read near c.args.id _ (omega (arith, ok, c.len.ensures, c.if-at-len.true)) c.index-entry.ensures 0)
    ∙ sym (get-near near c.self.inside.far.entries c.args.id c.self.invariant (omega (arith, ok, c.len.ensures, c.if-at-len.true)))
    ∙ ap (λ m. map.get m c.args.id) c.self.view_is

pub returns-then-at-len-clause-rest : goal.returns-then-at-len-clause-rest
returns-then-at-len-clause-rest c =
    near-taken c.self.inside.near.items c.self.inside.far.entries c.args.id c.self.invariant (omega (arith, c.self.inside.near.ok.0, c.len.ensures, c.if-at-len.true))
    ∙ ap (λ m. map.remove m c.args.id) c.self.view_is

pub returns-in_ok-place-clause-taken : goal.returns-in_ok-place-clause-taken
returns-in_ok-place-clause-taken c =
    c.in_ok-place.ensures.value
    ∙ sym (get-far c.self.inside.near.items c.self.inside.far.entries c.args.id (omega (arith, c.self.inside.near.ok.0, c.len.ensures, c.if-at-len.false)))
    ∙ ap (λ m. map.get m c.args.id) c.self.view_is

pub returns-in_ok-place-clause-rest : goal.returns-in_ok-place-clause-rest
returns-in_ok-place-clause-rest c =
    far-taken c.self.inside.near.items c.self.inside.far.entries c.remove.new.self.entries c.args.id (omega (arith, c.self.inside.near.ok.0, c.len.ensures, c.if-at-len.false)) c.in_ok-place.ensures.updates.0
    ∙ ap (λ m. map.remove m c.args.id) c.self.view_is

pub returns-in_err-place-clause-taken : goal.returns-in_err-place-clause-taken
returns-in_err-place-clause-taken c =
    c.from_residual.ensures
    ∙ c.in_err-place.ensures.value
    ∙ sym (get-far c.self.inside.near.items c.self.inside.far.entries c.args.id (omega (arith, c.self.inside.near.ok.0, c.len.ensures, c.if-at-len.false)))
    ∙ ap (λ m. map.get m c.args.id) c.self.view_is

pub returns-in_err-place-clause-rest : goal.returns-in_err-place-clause-rest
returns-in_err-place-clause-rest c =
    far-taken c.self.inside.near.items c.self.inside.far.entries c.remove.new.self.entries c.args.id (omega (arith, c.self.inside.near.ok.0, c.len.ensures, c.if-at-len.false)) c.in_err-place.ensures.updates.0
    ∙ ap (λ m. map.remove m c.args.id) c.self.view_is
