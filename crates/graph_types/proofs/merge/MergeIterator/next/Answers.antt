use Rattle.std.proofs.Common.{◌≡◌, ◌∷◌, length, sym, ap, ◌∙◌, rules}
use Rattle.graph_types.specs.meaning.Neighbourhood.{near_of}
use Rattle.graph_types.specs.storage.Ahead.{IsLowest}
use Rattle.graph_types.proofs.Ahead.{lowest-at, nothing-at}
use Rattle.graph_types.proofs.Merging.{near_of-empty, near_of-next}
use Rattle.graph_types.proofs.merge.MergeIterator.next.Goals as goal
use Rattle.graph_types.proofs.merge.MergeIterator.next.Goals.{In_ok-to}

pub returns-in_err-to-clause-steps : goal.returns-in_err-to-clause-steps
returns-in_err-to-clause-steps c =
    let nothing = nothing-at _ _ _ _ c.vertex.ensures c.vertex-2.ensures c.in_err-to.ensures in
    let none = sym c.self.view_is ∙ (λ i. near_of (nothing.0 i) (nothing.1 i)) ∙ near_of-empty in
    rw c.from_residual.ensures (none, none)

lowest : (c : In_ok-to) → IsLowest c.self.inside.before c.self.inside.after c.in_ok-to.to
lowest c = lowest-at _ _ _ _ c.vertex.ensures c.vertex-2.ensures _ c.in_ok-to.ensures

pub pass-requires : goal.pass-requires
pass-requires c = (lowest (goal.at.pass-requires c).In_ok-to).first

pub pass-requires-2 : goal.pass-requires-2
pass-requires-2 c = (lowest (goal.at.pass-requires-2 c).In_ok-to).second

stepped : (c : goal.After-pass-2) → c.args.self.now ≡ record { to = c.in_ok-to.to; before = c.pass.result; after = c.pass-2.result } ∷ near_of c.pass.new.self c.pass-2.new.self
stepped c =
    sym c.self.view_is
    ∙ near_of-next c.self.inside.before c.self.inside.after c.in_ok-to.to (lowest (goal.at.returns-clause-steps c).In_ok-to)
    ∙ (λ i. record { to = c.in_ok-to.to; before = sym c.pass.ensures.label i; after = sym c.pass-2.ensures.label i } ∷ near_of (sym c.pass.ensures.rest i) (sym c.pass-2.ensures.rest i))

pub returns-clause-steps : goal.returns-clause-steps
returns-clause-steps c = stepped c

pub returns-clause-goes : goal.returns-clause-goes
returns-clause-goes c = let shorter = ap length (stepped c) in search rules
