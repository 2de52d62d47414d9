use Rattle.std.proofs.Common.{◌≡◌, ◌-◌, ◌∷◌, Option, None, Some, IsSome, Result, Ok, Err, IsErrAnd, MatchResult, length, take, drop, map, string_bytes, refl, sym, ap, subst, ◌∙◌}
use Rattle.std.specs.Option.{option_map, option_and_then}
use Rattle.command_words.specs.calls.Reading.{LacksCommand, LacksOptions}
use Rattle.command_words.specs.declared.command.Command.{Command}
use Rattle.command_words.specs.declared.command.Options.{Options}
use Rattle.command_words.specs.declared.command.Verb.{Verb}
use Rattle.command_words.specs.declared.command.WordsFault.{WordsFault}
use Rattle.command_words.specs.declared.command.WordsFault.TheVariants as fault
use Rattle.command_words.specs.meaning.Words.{command_of, options_of_words, verb_of}
use Rattle.command_words.proofs.Splitting.{first_and_rest}
use Rattle.command_words.proofs.words.read_words.Goals as goal

abbrev command_with : Verb → Options → Command
command_with verb options = record { verb = verb; options = options }

-- words that lack the options of their command lack the command for the same reason
lacks_command : (verb : Verb) (options : Option Options) (e : WordsFault) → LacksOptions verb options e →
    LacksCommand (option_map (command_with verb) options) e
lacks_command verb None fault.Usage none = refl
lacks_command verb (Some options) fault.Usage none = absurd (cc)
lacks_command verb None fault.NoMemory lacks = absurd (let some : IsSome {T = Options} None = lacks.1 in cc)
lacks_command verb (Some options) fault.NoMemory lacks =
    (options, ap (λ verb. Some (command_with verb options)) lacks.0)

-- handing on a fault answers it
answers_fault : (known : Option Command) (r : Result Command WordsFault) (e : WordsFault) → LacksCommand known e →
    IsErrAnd r (λ f. f ≡ e) → MatchResult r (λ command. known ≡ Some command) (LacksCommand known)
answers_fault known (Ok command) e lacks is = absurd is
answers_fault known (Err f) e lacks is = subst (LacksCommand known) (sym is) lacks

pub returns-in_err-options-in-len1-up-clause-read : goal.returns-in_err-options-in-len1-up-clause-read
returns-in_err-options-in-len1-up-clause-read c =
    let words = c.args.words.now in
    let behind = take (length words - 1) (drop 1 words) in
    let verb = c.in_ok-verb-in-len1-up.verb in
    let e = c.in_err-options-in-len1-up.field-0.0 in
    let lacks : LacksOptions verb (options_of_words verb (map string_bytes behind)) e = c.in_err-options-in-len1-up.ensures.read in
    let known : verb_of (string_bytes c.word-item.result) ≡ Some verb =
    ap verb_of (sym c.as_bytes.ensures.value) ∙ sym c.read_verb.ensures ∙ c.in_ok-verb-in-len1-up.ensures.ok_part in
    let parts : words ≡ c.word-item.result ∷ behind = first_and_rest words c.word-item.result c.in-len1-up.len_at_least c.word-item.is in
    let gives : option_map (command_with verb) (options_of_words verb (map string_bytes behind)) ≡ command_of (map string_bytes words) =
    sym (ap (λ words. command_of (map string_bytes words)) parts
    ∙ ap (option_and_then (λ verb. option_map (command_with verb) (options_of_words verb (map string_bytes behind)))) known) in
    answers_fault (command_of (map string_bytes words)) c.from_residual-in_err-options-in-len1-up.result e
    (subst (λ command. LacksCommand command e) gives (lacks_command verb (options_of_words verb (map string_bytes behind)) e lacks))
    c.from_residual-in_err-options-in-len1-up.ensures.1
