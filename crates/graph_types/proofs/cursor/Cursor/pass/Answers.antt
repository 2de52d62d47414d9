use Rattle.std.proofs.Common.{◌≡◌, ◌≢◌, None, sym, ◌∙◌}
use Rattle.std.specs.FinMap as map
use Rattle.std.proofs.lemmas.Bool.{eqb-false, eqb-true, not-false, not-true}
use Rattle.graph_types.proofs.Ahead.{absent-ahead, ascending-ahead, label-ahead, other-ahead, removed-absent, rest-ahead}
use Rattle.graph_types.proofs.cursor.Cursor.pass.Goals as goal

pub returns-in_err-v-clause-label : goal.returns-in_err-v-clause-label
returns-in_err-v-clause-label c = c.from_residual.ensures ∙ sym (absent-ahead c.self.inside.first _ _ c.self.view_is c.in_err-v.was c.args.to)

pub returns-in_err-v-clause-rest : goal.returns-in_err-v-clause-rest
returns-in_err-v-clause-rest c = removed-absent c.args.self.now c.args.to (absent-ahead c.self.inside.first _ _ c.self.view_is c.in_err-v.was c.args.to)

absent : (c : goal.Then-ne) → map.get c.args.self.now c.args.to ≡ None
absent c =
    let apart : c.in_ok-v.v ≢ c.args.to = eqb-false _ _ (not-true _ (sym c.if-ne.ensures)) in
    other-ahead c.self.inside.first _ _ c.self.view_is c.self.invariant _ c.in_ok-v.was c.args.to c.requires apart

pub returns-then-ne-clause-label : goal.returns-then-ne-clause-label
returns-then-ne-clause-label c = sym (absent c)

pub returns-then-ne-clause-rest : goal.returns-then-ne-clause-rest
returns-then-ne-clause-rest c = removed-absent c.args.self.now c.args.to (absent c)

pub invariant_of-self : goal.invariant_of-self
invariant_of-self c = ascending-ahead c.self.inside.first _ _ c.self.view_is c.self.invariant _ c.in_ok-v.was _ _ c.step-self-inside.ensures

stands : (c : goal.After-self-1) → c.in_ok-v.v ≡ c.args.to
stands c = eqb-true _ _ (not-false _ (sym c.if-ne.ensures))

pub returns-clause-label : goal.returns-clause-label
returns-clause-label c = label-ahead c.self.inside.first _ _ c.self.view_is c.self.invariant _ c.in_ok-v.was c.args.to (stands c)

pub returns-clause-rest : goal.returns-clause-rest
returns-clause-rest c = rest-ahead c.self.inside.first _ _ c.self.view_is c.self.invariant _ c.in_ok-v.was c.args.to (stands c) _ _ c.step-self-inside.ensures
