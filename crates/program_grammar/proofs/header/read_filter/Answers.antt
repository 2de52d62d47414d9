use Rattle.std.proofs.Common.{ℕ, List, ◌++◌, map, Bor, Ok, Err, refl, sym, ap, subst, ◌∙◌, arith}
use Rattle.std.proofs.lemmas.Result.{err_from_is_err_and}
use Rattle.std.proofs.lemmas.Bool.{false_from_ne_true}
use Rattle.program_grammar.specs.meaning.Header.{filter_of}
use Rattle.program_grammar.specs.calls.Answers.{AddsFirst}
use Rattle.program_grammar.proofs.Lines.{filter-fails, filter-not, filter-read, room-read, Answers-starves, Grows-labels, Starves-labels, length-seen}
use Rattle.program_grammar.proofs.header.read_filter.Goals as goal

abbrev text : Bor (List ℕ) → List ℕ
text l = l.now

pub returns-in_err-cond : goal.returns-in_err-cond
returns-in_err-cond c =
    let p = err_from_is_err_and c.from_residual.result c.from_residual.ensures.1 in
    filter-fails c.args.mode c.args.line.now c.args.names.now c.in_err-cond.field-0.0 c.from_residual.result (p.1 ∙ ap Err p.2) c.in_err-cond.ensures.parses

pub returns-in-Err : goal.returns-in-Err
returns-in-Err c =
    (filter-not c.args.mode c.args.line.now c.args.names.now c.in_ok-cond.cond _ c.in_ok-cond.ensures.parses (false_from_ne_true _ c.in-Err.ensures.falls), refl)

pub intern_all-requires-clause-room : goal.intern_all-requires-clause-room
intern_all-requires-clause-room c =
    let labels = map text c.in_ok-cond.labels.items in
    let read = filter-read c.args.mode c.args.line.now c.args.names.now c.in_ok-cond.cond labels c.in_ok-cond.ensures.parses c.in-Ok.ensures.falls.0 in
    let room = room-read c.args.names.now labels _ _ c.requires read c.in_ok-cond.ensures.parses.few in
    omega (arith, room, length-seen text c.in_ok-cond.labels.items c.as_slice.result.now c.as_slice.ensures.value)

pub returns-in_err-intern_all : goal.returns-in_err-intern_all
returns-in_err-intern_all c =
    let labels = map text c.in_ok-cond.labels.items in
    let names = c.args.names.now in
    let p = err_from_is_err_and c.from_residual-in_err-intern_all.result c.from_residual-in_err-intern_all.ensures.1 in
    let read = filter-read c.args.mode c.args.line.now names c.in_ok-cond.cond labels c.in_ok-cond.ensures.parses c.in-Ok.ensures.falls.0 in
    let added = subst (λ ls. AddsFirst (map text ls) names c.intern_all.new.names) c.as_slice.ensures.value c.in_err-intern_all.ensures.some in
    Answers-starves names c.intern_all.new.names (filter_of c.args.mode c.args.line.now names) c.from_residual-in_err-intern_all.result (p.1 ∙ ap Err p.2)
    (Starves-labels names labels c.intern_all.new.names (filter_of c.args.mode c.args.line.now names) _ read c.in_ok-cond.ensures.parses.few added)

pub returns : goal.returns
returns c =
    let labels = map text c.in_ok-cond.labels.items in
    let names = c.args.names.now in
    let all = c.in_ok-intern_all.ensures.all ∙ ap (λ ls. names ++ map text ls) c.as_slice.ensures.value in (
      filter-read c.args.mode c.args.line.now names c.in_ok-cond.cond labels c.in_ok-cond.ensures.parses c.in-Ok.ensures.falls.0
          ∙ ap (λ f. Ok (f, names ++ labels)) (sym c.in-Ok.ensures.falls.1 ∙ sym c.new.ensures)
          ∙ ap (λ ns. Ok (c.new.result, ns)) (sym all),
      Grows-labels names labels c.intern_all.new.names all c.in_ok-cond.ensures.parses.few,
    )
