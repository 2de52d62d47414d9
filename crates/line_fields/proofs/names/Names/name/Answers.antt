use Rattle.line_fields.proofs.Numbers.{number_in-found, is_label-found}
use Rattle.line_fields.proofs.names.Names.name.Goals as goal

pub returns-clause-numbered : goal.returns-clause-numbered
returns-clause-numbered c =
    number_in-found (λ name. name.items) c.self.inside.names.keys c.args.self.now c.in_ok-name.name.now c.l.inside.0 c.args.l c.as_slice.result.now
    c.self.invariant c.self.view_is c.in_ok-name.ensures.key c.l.view_is c.as_slice.ensures.value

pub returns-clause-in_form : goal.returns-clause-in_form
returns-clause-in_form c =
    is_label-found (λ name. name.items) c.self.inside.names.keys c.in_ok-name.name.now c.l.inside.0 c.as_slice.result.now
    c.self.invariant c.in_ok-name.ensures.key c.as_slice.ensures.value
