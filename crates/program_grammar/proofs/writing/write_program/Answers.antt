use Rattle.std.proofs.Common.{◌≡◌, rules, sym, ap, subst, ◌∙◌}
use Rattle.program_grammar.specs.meaning.Programs.{LinesFit, program_said}
use Rattle.program_grammar.specs.meaning.Text.{program_text}
use Rattle.program_grammar.specs.declared.header.HeaderReader.TheVariants as header
use Rattle.program_grammar.proofs.RoundTrip.{LinesFit-written, program_said-written}
use Rattle.program_grammar.proofs.writing.write_program.Goals as goal

pub returns-clause-fits : goal.returns-clause-fits
returns-clause-fits c =
    let names = c.args.names.now in
    let written : c.push-5.new.self ≡ program_text names c.args.p.now = search rules in
    subst (λ lines. LinesFit header.Mode lines names) (sym written)
    (LinesFit-written names c.count.ensures.names c.args.p.now c.mode.ensures.program c.requires.filter_known c.requires.matching_known)

pub returns-clause-read_back : goal.returns-clause-read_back
returns-clause-read_back c =
    let names = c.args.names.now in
    let written : c.push-5.new.self ≡ program_text names c.args.p.now = search rules in
    ap (λ lines. program_said lines names) written
    ∙ program_said-written names c.count.ensures.names c.args.p.now c.mode.ensures.program c.requires.filter_known c.requires.matching_known
