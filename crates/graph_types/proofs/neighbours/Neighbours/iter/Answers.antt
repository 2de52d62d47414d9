use Rattle.std.proofs.Common.{length, ap, sym, subst, ◌∙◌}
use Rattle.std.specs.Cmp.{nat_cmp_total}
use Rattle.std.specs.FinMap as map
use Rattle.std.proofs.iter.runs.Sources.{from_front}
use Rattle.std.specs.Map.Iter.{TakesFirst, ShowsInOrder}
use Rattle.graph_types.specs.calls.Entry.{entry_of}
use Rattle.graph_types.specs.storage.Few.{IsAscending}
use Rattle.graph_types.specs.storage.Kept.{pairs_of, map_of}
use Rattle.graph_types.proofs.Views.{entries-seen}
use Rattle.graph_types.proofs.neighbours.Neighbours.iter.Goals as goal

gives_in_order : {V : Type 0} → ShowsInOrder (entry_of {V = V})
gives_in_order = from_front (TakesFirst entry_of) entry_of (λ s. s) (λ s t h. ap length h.0) (λ s x t h. h)

pub returns-in-Few-clause-rest : goal.returns-in-Few-clause-rest
returns-in-Few-clause-rest g c =
    let ascending = subst (λ kept. IsAscending (pairs_of kept)) c.in-Few.is c.self.invariant in
    c.of_few.ensures
    ∙ c.deref.ensures.value
    ∙ sym (entries-seen nat_cmp_total c.in-Few.few.items ascending)
    ∙ ap (λ kept. map.entries (map_of kept)) (sym c.in-Few.is)
    ∙ ap map.entries c.self.view_is

pub returns-in-Few-clause-runs : goal.returns-in-Few-clause-runs
returns-in-Few-clause-runs g c = gives_in_order

pub returns-in-Many-clause-rest : goal.returns-in-Many-clause-rest
returns-in-Many-clause-rest g c =
    let ascending = subst (λ kept. IsAscending (pairs_of kept)) c.in-Many.is c.self.invariant in
    c.of_many.ensures
    ∙ sym (entries-seen nat_cmp_total c.in-Many.many.entries ascending)
    ∙ ap (λ kept. map.entries (map_of kept)) (sym c.in-Many.is)
    ∙ ap map.entries c.self.view_is

pub returns-in-Many-clause-runs : goal.returns-in-Many-clause-runs
returns-in-Many-clause-runs g c = gives_in_order
