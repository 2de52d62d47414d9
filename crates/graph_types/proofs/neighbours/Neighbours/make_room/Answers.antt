use Rattle.std.proofs.Common.{not, ap, sym, subst, ◌∙◌}
use Rattle.std.specs.BTreeMap.{IsFromIterResult}
use Rattle.std.specs.Cmp.{nat_cmp_total}
use Rattle.std.specs.FinMap as map
use Rattle.std.specs.Option.{option_copied}
use Rattle.std.specs.Ordering.{nat_cmp}
use Rattle.std.proofs.lemmas.Result.{err_from_is_err_and}
use Rattle.graph_types.specs.storage.Few.{IsAscending}
use Rattle.graph_types.specs.storage.Kept.{pairs_of, map_of}
use Rattle.graph_types.proofs.FewPairs.{collected-seen}
use Rattle.graph_types.proofs.Views.{none_from}
use Rattle.graph_types.proofs.neighbours.Neighbours.make_room.Goals as goal

pub get-requires : goal.get-requires
get-requires g c = subst IsAscending (sym c.deref.ensures.value) (subst (λ kept. IsAscending (pairs_of kept)) c.in-Few.is c.self.invariant)

pub returns-in_ok-many-clause-same : goal.returns-in_ok-many-clause-same
returns-in_ok-many-clause-same g c =
    let ascending = subst (λ kept. IsAscending (pairs_of kept)) c.in-Few.is c.self.invariant in
    collected-seen c.in-Few.few.items c.in_ok-many.many ascending (subst (λ pairs. IsFromIterResult nat_cmp pairs c.in_ok-many.many) c.deref-2.ensures.value c.in_ok-many.ensures)
    ∙ ap map_of (sym c.in-Few.is)
    ∙ c.self.view_is

pub returns-in_err-many-clause-was_new : goal.returns-in_err-many-clause-was_new
returns-in_err-many-clause-was_new g c =
    let p = err_from_is_err_and c.from_residual.result c.from_residual.ensures.1 in
    rw p.1
    (ap (λ m. map.get m c.args.to) (sym c.self.view_is)
    ∙ ap (λ kept. map.get (map_of kept) c.args.to) c.in-Few.is
    ∙ map.get-from_entries nat_cmp_total c.in-Few.few.items c.args.to
    ∙ ap (map.find nat_cmp c.args.to) (sym c.deref.ensures.value)
    ∙ sym c.get.ensures
    ∙ ap option_copied (none_from _ (c.is_none.ensures ∙ ap not c.if-is_none.true)))
