use Rattle.std.proofs.Common.{ap, sym, subst, ◌∙◌}
use Rattle.std.specs.Cmp.{nat_cmp_total}
use Rattle.std.specs.FinMap as map
use Rattle.std.specs.Ordering.{nat_cmp}
use Rattle.std.proofs.lemmas.Result.{err_from_is_err_and}
use Rattle.graph_types.specs.storage.Few.{IsAscending}
use Rattle.graph_types.specs.storage.Kept.{pairs_of, map_of}
use Rattle.graph_types.proofs.FewPairs.{IsAscending-put, put-seen}
use Rattle.graph_types.proofs.Views.{get-seen, insert-seen}
use Rattle.graph_types.proofs.neighbours.Neighbours.put_as_kept.Goals as goal
use Rattle.graph_types.proofs.neighbours.Neighbours.put_as_kept.Goals.{in-Few+in_ok-put-in-Few, in-Many+in_ok-insert-in-Many}

pub put-requires : goal.put-requires
put-requires g c = subst (λ kept. IsAscending (pairs_of kept)) c.in-Few.is c.self.invariant

pub invariant_of-self-2 : goal.invariant_of-self-2
invariant_of-self-2 g c =
    elim c.match-self.branch [
      | in-Few+in_ok-put-in-Few w ↦
          let ascending = subst (λ kept. IsAscending (pairs_of kept)) w.in-Few.is c.self.invariant in
          subst (λ s. IsAscending (pairs_of s.kept)) (sym w.self-inside-is) (subst IsAscending (sym w.in_ok-put-in-Few.ensures.ok) (IsAscending-put c.args.to c.args.value _ ascending))
      | in-Many+in_ok-insert-in-Many w ↦ subst (λ s. IsAscending (pairs_of s.kept)) (sym w.self-inside-is) w.in_ok-insert-in-Many.ensures.ordered
    ]

pub returns-clause-ok : goal.returns-clause-ok
returns-clause-ok g c =
    elim c.match-self.branch [
      | in-Few+in_ok-put-in-Few w ↦
          ap (λ s. map_of s.kept) w.self-inside-is
          ∙ ap (map.from_entries {R = nat_cmp}) w.in_ok-put-in-Few.ensures.ok
          ∙ put-seen c.args.to c.args.value w.in-Few.few.items
          ∙ ap (λ kept. map.insert (map_of kept) c.args.to c.args.value) (sym w.in-Few.is)
          ∙ ap (λ m. map.insert m c.args.to c.args.value) c.self.view_is
      | in-Many+in_ok-insert-in-Many w ↦
          ap (λ s. map_of s.kept) w.self-inside-is
          ∙ ap (map.from_entries {R = nat_cmp}) w.in_ok-insert-in-Many.ensures.entries
          ∙ insert-seen nat_cmp_total map.nat_cmp-IsAntisymmetric w.in-Many.many.entries c.args.to c.args.value
          ∙ ap (λ kept. map.insert (map_of kept) c.args.to c.args.value) (sym w.in-Many.is)
          ∙ ap (λ m. map.insert m c.args.to c.args.value) c.self.view_is
    ]

pub returns-in_err-put-in-Few-clause-was_new : goal.returns-in_err-put-in-Few-clause-was_new
returns-in_err-put-in-Few-clause-was_new g c =
    let p = err_from_is_err_and c.from_residual.result c.from_residual.ensures.1 in
    rw p.1
    (ap (λ m. map.get m c.args.to) (sym c.self.view_is)
    ∙ ap (λ kept. map.get (map_of kept) c.args.to) c.in-Few.is
    ∙ map.get-from_entries nat_cmp_total c.in-Few.few.items c.args.to
    ∙ c.in_err-put-in-Few.ensures.was_new)

pub returns-in_err-insert-in-Many-clause-was_new : goal.returns-in_err-insert-in-Many-clause-was_new
returns-in_err-insert-in-Many-clause-was_new g c =
    let p = err_from_is_err_and c.from_residual-in_err-insert-in-Many.result c.from_residual-in_err-insert-in-Many.ensures.1 in
    rw p.1
    (ap (λ m. map.get m c.args.to) (sym c.self.view_is)
    ∙ ap (λ kept. map.get (map_of kept) c.args.to) c.in-Many.is
    ∙ sym (get-seen nat_cmp_total c.args.to c.in-Many.many.entries)
    ∙ c.in_err-insert-in-Many.ensures.absent)
