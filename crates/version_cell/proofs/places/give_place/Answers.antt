use Rattle.std.proofs.Common.{◌≡◌, None, Some, Option, refl, sym, ap, subst, ◌∙◌, IsTrue}
use Rattle.std.specs.Borrow.{Bor}
use Rattle.std.specs.Cmp.{nat_cmp_total}
use Rattle.std.specs.FinMap as map
use Rattle.std.specs.Option.{is_some, option_copied}
use Rattle.graph_types.proofs.Views.{none_from}
use Rattle.shared_lemmas.proofs.FiniteMaps.{contains_key-insert, contains_key-inserted}
use Rattle.version_cell.specs.storage.Places.{near_at_floor}
use Rattle.version_cell.proofs.PlaceLabels.{near_at_floor-given}
use Rattle.version_cell.proofs.places.give_place.Goals as goal

some-copied : {X : Type 0} (o : Option (Bor X)) → is_some (option_copied o) ≡ is_some o
some-copied None = refl
some-copied (Some x) = refl

pub returns-then-is_some-clause-ok : goal.returns-then-is_some-clause-ok
returns-then-is_some-clause-ok c = ap is_some (sym c.get.ensures) ∙ some-copied c.get.result ∙ sym c.is_some.ensures ∙ c.if-is_some.true

pub returns-clause-same : goal.returns-clause-same
returns-clause-same c =
    let absent : map.get c.args.places.now c.args.to ≡ None = sym c.get.ensures ∙ ap option_copied (none_from c.get.result (sym c.is_some.ensures ∙ c.if-is_some.false)) in
    ap near_at_floor c.in_ok-put.ensures.ok ∙ near_at_floor-given c.args.places.now c.args.to absent

pub returns-clause-kept : goal.returns-clause-kept
returns-clause-kept c = λ w has. subst (λ m. IsTrue (map.contains_key m w)) (sym c.in_ok-put.ensures.ok) (contains_key-insert nat_cmp_total c.args.places.now c.args.to None w has)

pub returns-clause-ok : goal.returns-clause-ok
returns-clause-ok c = subst (λ m. IsTrue (map.contains_key m c.args.to)) (sym c.in_ok-put.ensures.ok) (contains_key-inserted nat_cmp_total c.args.places.now c.args.to None)
