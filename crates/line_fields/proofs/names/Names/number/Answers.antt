use Rattle.std.proofs.Common.{◌≡◌, None, rules, sym, ◌∙◌}
use Rattle.line_fields.proofs.Numbers.{number_in-keys}
use Rattle.line_fields.proofs.names.Names.number.Goals as goal

pub returns-in_err-place : goal.returns-in_err-place
returns-in_err-place c =
    let lost : c.from_residual.result ≡ None = search rules in
    lost ∙ sym (number_in-keys (λ name. name.items) c.self.inside.names.keys c.args.self.now c.args.name.now _ c.self.view_is c.in_err-place.ensures.index)

pub returns : goal.returns
returns c = sym (number_in-keys (λ name. name.items) c.self.inside.names.keys c.args.self.now c.args.name.now _ c.self.view_is c.in_ok-place.ensures.index)
