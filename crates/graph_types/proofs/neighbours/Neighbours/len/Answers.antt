use Rattle.std.proofs.Common.{length, ap, sym, subst, ◌∙◌}
use Rattle.std.specs.Cmp.{nat_cmp_total}
use Rattle.std.specs.FinMap as map
use Rattle.graph_types.specs.storage.Few.{IsAscending}
use Rattle.graph_types.specs.storage.Kept.{pairs_of, map_of}
use Rattle.graph_types.proofs.Views.{entries-seen}
use Rattle.graph_types.proofs.neighbours.Neighbours.len.Goals as goal

pub returns-in-Few : goal.returns-in-Few
returns-in-Few g c =
    let ascending = subst (λ kept. IsAscending (pairs_of kept)) c.in-Few.is c.self.invariant in
    c.len.ensures
    ∙ c.in-Few.few.ok.0
    ∙ ap length (sym (entries-seen nat_cmp_total c.in-Few.few.items ascending))
    ∙ sym (map.len-entries _)
    ∙ ap (λ kept. map.len (map_of kept)) (sym c.in-Few.is)
    ∙ ap map.len c.self.view_is

pub returns-in-Many : goal.returns-in-Many
returns-in-Many g c =
    let ascending = subst (λ kept. IsAscending (pairs_of kept)) c.in-Many.is c.self.invariant in
    c.len-in-Many.ensures.len
    ∙ ap length (sym (entries-seen nat_cmp_total c.in-Many.many.entries ascending))
    ∙ sym (map.len-entries _)
    ∙ ap (λ kept. map.len (map_of kept)) (sym c.in-Many.is)
    ∙ ap map.len c.self.view_is
