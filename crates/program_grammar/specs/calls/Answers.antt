-- What reading a line of a header answers.
use Rattle.std.specs.Prelude.{◌≡◌, ◌+◌, ◌≤◌, ◌⊎◌, ℕ, List, ◌++◌, length, take, Result, Ok, Err}
use Rattle.conditions.specs.meaning.Written.{most_tokens}
use Rattle.line_fields.specs.meaning.Names.{Names, most_names}
use Rattle.condition_grammar.specs.declared.fault.ConditionFault.{ConditionFault}
use Rattle.condition_grammar.specs.declared.fault.ConditionFault.TheVariants as condition
use Rattle.program_grammar.specs.declared.fault.ProgramFault.{ProgramFault}
use Rattle.program_grammar.specs.declared.fault.ProgramFault.TheVariants as fault
use Rattle.program_grammar.specs.declared.fault.ReadError.{ReadError}
use Rattle.program_grammar.specs.declared.fault.ReadError.TheVariants as error
use Rattle.program_grammar.specs.declared.fault.ProgramKind.{ProgramKind}
use Rattle.program_grammar.specs.declared.fault.ProgramKind.TheVariants.{Missing}
use Rattle.program_grammar.specs.meaning.Header.{kind_of_condition}

-- some names more, at most so many, stand after the old ones
pub record AddsNames (most : ℕ) (old new : Names) : Type 0 where
  pub more : Names
  pub behind : new ≡ old ++ more
  pub few : length more ≤ most

-- the first of these labels, and no others, were put after the names
abbrev pub AddsFirst : List (List ℕ) → Names → Names → Type 0
AddsFirst labels old new = (n : ℕ) × (new ≡ old ++ take n labels)

-- There is room for the labels of a condition, whatever they are; or there is for those that it brings.
abbrev pub FewNames : {A : Type 0} → Result (A × Names) ProgramKind → Type 0
FewNames (Ok read) = length read.1 ≤ most_names
FewNames (Err f) = Unit {0}

abbrev pub HasRoom : {A : Type 0} → Names → Result (A × Names) ProgramKind → Type 0
HasRoom names said = (length names + most_tokens ≤ most_names) ⊎ FewNames said

-- a line that was read brings these labels, and no more than a condition has tokens
abbrev pub BringsLabels : {A : Type 0} → Names → A × Names → List (List ℕ) → Type 0
BringsLabels old read labels = (read.1 ≡ old ++ labels) × (length labels ≤ most_tokens)

-- Memory ran out: the names are as they were, or the first of the labels that the line brings were added, and
-- no others. A line that is refused brings none.
abbrev pub RunsOut : {A : Type 0} → Names → Result (A × Names) ProgramKind → Names → Type 0
RunsOut old (Ok read) new = (new ≡ old) ⊎ ((labels : List (List ℕ)) × BringsLabels old read labels × AddsFirst labels old new)
RunsOut old (Err f) new = new ≡ old

-- It was read, and the names are those then, with few more; or it was refused, and they are as they were; or
-- memory ran out.
abbrev pub AnswersReading : {A : Type 0} → Names → Result (A × Names) ProgramKind → Result A ReadError → Names → Type 0
AnswersReading old said (Ok x) new = (said ≡ Ok (x, new)) × AddsNames most_tokens old new
AnswersReading old said (Err error.NoMemory) new = RunsOut old said new
AnswersReading old said (Err (error.Refused f)) new = (said ≡ Err f) × (new ≡ old)

-- a refusal is that of the definition, unless memory ran out
abbrev pub RefusesAs : {A : Type 0} → ReadError → Result A ProgramKind → Type 0
RefusesAs error.NoMemory said = Unit {0}
RefusesAs (error.Refused f) said = said ≡ Err f

-- why a line is not read whose condition is not
abbrev pub error_of_condition : ConditionFault → ReadError
error_of_condition condition.NoMemory = error.NoMemory
error_of_condition (condition.Refused f) = error.Refused (kind_of_condition f)

-- it can be told of a line: that one is missing is told of none
abbrev pub IsOfLine : ProgramKind → Type 0
IsOfLine (Missing word) = ⊥
IsOfLine kind = Unit {0}

-- the same of line n, by which a refusal is told
abbrev pub AnswersLine : {A : Type 0} → ℕ → Names → Result (A × Names) ProgramKind → Result A ProgramFault → Names → Type 0
AnswersLine n old said (Ok x) new = (said ≡ Ok (x, new)) × AddsNames most_tokens old new
AnswersLine n old said (Err fault.NoMemory) new = RunsOut old said new
AnswersLine n old said (Err (fault.Refused line kind)) new = (line ≡ n) × (said ≡ Err kind) × IsOfLine kind × (new ≡ old)
