-- The lines of a whole program.
use Rattle.std.specs.Prelude.{◌≡◌, ◌+◌, ◌*◌, ◌≤◌, ◌⊎◌, ℕ, List, [], ◌∷◌, length, Result, Ok, Err}
use Rattle.filter_polarity.specs.meaning.Program.{ProgramValue}
use Rattle.conditions.specs.meaning.Written.{most_tokens}
use Rattle.line_fields.specs.meaning.Names.{Names, most_names}
use Rattle.program_grammar.specs.declared.fault.ProgramFault.{ProgramFault}
use Rattle.program_grammar.specs.declared.fault.ProgramFault.TheVariants as fault
use Rattle.program_grammar.specs.declared.fault.ProgramKind.{ProgramKind}
use Rattle.program_grammar.specs.declared.fault.ProgramKind.TheVariants.{Missing}
use Rattle.program_grammar.specs.declared.header.HeaderReader.{HeaderReader}
use Rattle.program_grammar.specs.declared.header.HeaderReader.TheVariants as header
use Rattle.program_grammar.specs.declared.header.HeaderStep.{HeaderStep}
use Rattle.program_grammar.specs.declared.header.HeaderStep.TheVariants.{More, Ready}
use Rattle.program_grammar.specs.calls.Answers.{HasRoom, RunsOut}
use Rattle.program_grammar.specs.meaning.Header.{awaited_word, header_said}

-- what lines say, or the first refusal among them, and the names then
abbrev pub ProgramOutcome : Type 0
ProgramOutcome = Result ProgramValue ProgramFault × Names

-- what a line of this number leads to, by what the lines after it say
abbrev pub outcome_after_line : (HeaderReader → Names → ProgramOutcome) → ℕ → Names → Result (HeaderStep × Names) ProgramKind → ProgramOutcome
outcome_after_line later number names (Ok (More next, after)) = later next after
outcome_after_line later number names (Ok (Ready p, after)) = (Ok p, after)
outcome_after_line later number names (Err kind) = (Err (fault.Refused number kind), names)

-- The lines after the first n, of which the first is the one that is awaited. Where they end early, it is told how
-- many there were, and the word that is missing.
abbrev pub lines_said : HeaderReader → ℕ → List (List ℕ) → Names → ProgramOutcome
lines_said h n [] names = (Err (fault.Refused n (Missing (awaited_word h))), names)
lines_said h n (line ∷ lines) names = outcome_after_line (λ next after. lines_said next (n + 1) lines after) (n + 1) names (header_said h line names)

abbrev pub program_said : List (List ℕ) → Names → ProgramOutcome
program_said lines names = lines_said header.Mode 0 lines names

-- there is room for the labels of each line
abbrev pub fits_next : (HeaderReader → Names → Type 0) → Result (HeaderStep × Names) ProgramKind → Type 0
fits_next later (Ok (More next, after)) = later next after
fits_next later said = Unit {0}

abbrev pub LinesFit : HeaderReader → List (List ℕ) → Names → Type 0
LinesFit h [] names = Unit {0}
LinesFit h (line ∷ lines) names = HasRoom names (header_said h line names) × fits_next (λ next after. LinesFit next lines after) (header_said h line names)

-- how many conditions are still to come
abbrev pub conditions_left : HeaderReader → ℕ
conditions_left header.Mode = 2
conditions_left (header.Size m) = 2
conditions_left (header.Filter m n) = 2
conditions_left (header.Match n f) = 1
conditions_left (header.Begin n f c) = 0

-- there is room for their labels, whatever they are
abbrev pub RoomFor : HeaderReader → Names → Type 0
RoomFor h names = length names + conditions_left h * most_tokens ≤ most_names

-- memory ran out at one of the lines, after those that led on
abbrev pub runs_out_next : (HeaderReader → Names → Type 0) → Result (HeaderStep × Names) ProgramKind → Type 0
runs_out_next later (Ok (More next, after)) = later next after
runs_out_next later said = ⊥

abbrev pub LinesRunOut : HeaderReader → List (List ℕ) → Names → Names → Type 0
LinesRunOut h [] names new = ⊥
LinesRunOut h (line ∷ lines) names new =
    RunsOut names (header_said h line names) new ⊎ runs_out_next (λ next after. LinesRunOut next lines after new) (header_said h line names)

-- the answer is what the lines say, and the names are those then; or memory ran out
abbrev pub ReadsProgram : List (List ℕ) → Names → Result ProgramValue ProgramFault → Names → Type 0
ReadsProgram lines old (Err fault.NoMemory) new = LinesRunOut header.Mode lines old new
ReadsProgram lines old result new = program_said lines old ≡ (result, new)
