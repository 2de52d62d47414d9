use Rattle.std.proofs.Common.{ap, sym, subst, ◌∙◌}
use Rattle.std.specs.BTreeMap.{is_at}
use Rattle.std.specs.Cmp.{nat_cmp_total}
use Rattle.std.specs.FinMap as map
use Rattle.std.specs.Ordering.{nat_cmp}
use Rattle.graph_types.specs.storage.Few.{IsAscending}
use Rattle.graph_types.specs.storage.Kept.{pairs_of, map_of}
use Rattle.graph_types.proofs.FewPairs.{IsAscending-remove_entry, removed-seen}
use Rattle.graph_types.proofs.Views.{get-seen, remove-seen}
use Rattle.graph_types.proofs.neighbours.Neighbours.take.Goals as goal
use Rattle.graph_types.proofs.neighbours.Neighbours.take.Goals.{in-Few, in-Many}

pub take-requires : goal.take-requires
take-requires g c = subst (λ kept. IsAscending (pairs_of kept)) c.in-Few.is c.self.invariant

pub invariant_of-self : goal.invariant_of-self
invariant_of-self g c =
    elim c.match-self.branch [
      | in-Few w ↦
          let ascending = subst (λ kept. IsAscending (pairs_of kept)) w.in-Few.is c.self.invariant in
          subst (λ s. IsAscending (pairs_of s.kept)) (sym w.self-inside-is) (subst IsAscending (sym w.take.ensures.rest) (IsAscending-remove_entry (is_at (nat_cmp c.args.to)) _ ascending))
      | in-Many w ↦ subst (λ s. IsAscending (pairs_of s.kept)) (sym w.self-inside-is) w.remove.ensures.ordered
    ]

pub returns-clause-rest : goal.returns-clause-rest
returns-clause-rest g c =
    elim c.match-self.branch [
      | in-Few w ↦
          let ascending = subst (λ kept. IsAscending (pairs_of kept)) w.in-Few.is c.self.invariant in
          ap (λ s. map_of s.kept) w.self-inside-is
          ∙ ap (map.from_entries {R = nat_cmp}) w.take.ensures.rest
          ∙ removed-seen c.args.to w.in-Few.few.items ascending
          ∙ ap (λ kept. map.remove (map_of kept) c.args.to) (sym w.in-Few.is)
          ∙ ap (λ m. map.remove m c.args.to) c.self.view_is
      | in-Many w ↦
          ap (λ s. map_of s.kept) w.self-inside-is
          ∙ remove-seen nat_cmp_total map.nat_cmp-IsAntisymmetric w.in-Many.many.entries _ c.args.to w.remove.ensures.updates.0
          ∙ ap (λ kept. map.remove (map_of kept) c.args.to) (sym w.in-Many.is)
          ∙ ap (λ m. map.remove m c.args.to) c.self.view_is
    ]

pub returns-clause-taken : goal.returns-clause-taken
returns-clause-taken g c =
    elim c.match-self.branch [
      | in-Few w ↦
          w.result-is
          ∙ w.take.ensures.taken
          ∙ sym (map.get-from_entries nat_cmp_total w.in-Few.few.items c.args.to)
          ∙ ap (λ kept. map.get (map_of kept) c.args.to) (sym w.in-Few.is)
          ∙ ap (λ m. map.get m c.args.to) c.self.view_is
      | in-Many w ↦
          w.result-is
          ∙ w.remove.ensures.value
          ∙ get-seen nat_cmp_total c.args.to w.in-Many.many.entries
          ∙ ap (λ kept. map.get (map_of kept) c.args.to) (sym w.in-Many.is)
          ∙ ap (λ m. map.get m c.args.to) c.self.view_is
    ]
