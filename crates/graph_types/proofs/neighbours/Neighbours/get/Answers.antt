use Rattle.std.proofs.Common.{ap, sym, subst, ◌∙◌}
use Rattle.std.specs.Cmp.{nat_cmp_total}
use Rattle.std.specs.Ordering.{nat_cmp}
use Rattle.std.specs.FinMap as map
use Rattle.graph_types.specs.storage.Few.{IsAscending}
use Rattle.graph_types.specs.storage.Kept.{pairs_of, map_of}
use Rattle.graph_types.proofs.Views.{get-seen}
use Rattle.graph_types.proofs.neighbours.Neighbours.get.Goals as goal

pub get-requires : goal.get-requires
get-requires g c = subst IsAscending (sym c.deref.ensures.value) (subst (λ kept. IsAscending (pairs_of kept)) c.in-Few.is c.self.invariant)

pub returns-in-Few : goal.returns-in-Few
returns-in-Few g c =
    c.get.ensures
    ∙ ap (map.find nat_cmp c.args.to) c.deref.ensures.value
    ∙ sym (map.get-from_entries nat_cmp_total c.in-Few.few.items c.args.to)
    ∙ ap (λ kept. map.get (map_of kept) c.args.to) (sym c.in-Few.is)
    ∙ ap (λ m. map.get m c.args.to) c.self.view_is

pub returns-in-Many : goal.returns-in-Many
returns-in-Many g c =
    c.get-in-Many.ensures.value
    ∙ get-seen nat_cmp_total c.args.to c.in-Many.many.entries
    ∙ ap (λ kept. map.get (map_of kept) c.args.to) (sym c.in-Many.is)
    ∙ ap (λ m. map.get m c.args.to) c.self.view_is
