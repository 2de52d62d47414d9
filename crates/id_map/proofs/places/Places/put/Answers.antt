use Rattle.std.proofs.Common.{ap, ◌∙◌, arith}
use Rattle.std.specs.FinMap as map
use Rattle.id_map.proofs.ToldPlaces.{near-put, far-put}
use Rattle.id_map.proofs.places.Places.put.Goals as goal

pub returns-in_ok-put-clause-ok : goal.returns-in_ok-put-clause-ok
returns-in_ok-put-clause-ok c =
    near-put c.self.inside.near.items c.put.new.near.items c.self.inside.far.entries c.args.id c.args.place (c.self.invariant.apart c.args.id c.if-id-lt-BOUND.true) c.in_ok-put.ensures.ok
    ∙ ap (λ m. map.insert m c.args.id c.args.place) c.self.view_is

pub returns-in_ok-insert-clause-ok : goal.returns-in_ok-insert-clause-ok
returns-in_ok-insert-clause-ok c =
    far-put c.self.inside.near.items c.self.inside.far.entries c.insert.new.self.entries c.args.id c.args.place (omega (arith, c.self.invariant.bounded, c.if-id-lt-BOUND.false)) c.in_ok-insert.ensures.updates.0
    ∙ ap (λ m. map.insert m c.args.id c.args.place) c.self.view_is
