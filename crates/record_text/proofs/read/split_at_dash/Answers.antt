use Rattle.std.proofs.Common.{◌+◌, ◌∷◌, take, sym, ap, ◌∙◌}
use Rattle.std.specs.List.{slice_split}
use Rattle.line_fields.specs.meaning.Fields.{is_dash}
use Rattle.record_text.proofs.Words.{slice_split-at, slice_split-one, rest_all}
use Rattle.record_text.proofs.read.split_at_dash.Goals as goal

pub returns-in_err-dash : goal.returns-in_err-dash
returns-in_err-dash c = rw c.from_residual.ensures (slice_split-one is_dash c.args.word.now (sym c.dash_place.ensures ∙ c.in_err-dash.was))

pub returns : goal.returns
returns c =
    let word = c.args.word.now in
    let place = c.in_ok-dash.dash in
    (slice_split-at is_dash word place (sym c.dash_place.ensures ∙ c.in_ok-dash.was)).1
    ∙ ap (λ rest. take place word ∷ slice_split is_dash rest) (rest_all word (place + 1))
