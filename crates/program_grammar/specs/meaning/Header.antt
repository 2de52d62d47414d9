-- The five lines of a header, and what each says.
use Rattle.std.specs.Prelude.{ℕ, Bool, false, ◌&&◌, codes, List, [], ◌∷◌, Option, None, Some, Result, Ok, Err, if◌then◌else◌}
use Rattle.std.specs.Str.{bytes_eq}
use Rattle.graph_types.specs.declared.ids.Mode.{Mode}
use Rattle.graph_types.specs.declared.ids.Mode.TheVariants as mode
use Rattle.line_fields.specs.meaning.Fields.{words_of, rest_of, number_of, is_nothing_line}
use Rattle.line_fields.specs.meaning.Names.{Names}
use Rattle.conditions.specs.declared.condition.Cond.{Cond}
use Rattle.filter_polarity.specs.meaning.Polarity.{is_falling}
use Rattle.filter_polarity.specs.meaning.Program.{FallingValue}
use Rattle.program_grammar.specs.declared.fault.ProgramKind.{ProgramKind}
use Rattle.program_grammar.specs.declared.fault.ProgramKind.TheVariants.{BadLine, SizeRange, TooDeep, TooLong, NotFalling}
use Rattle.program_grammar.specs.declared.header.HeaderReader.{HeaderReader}
use Rattle.program_grammar.specs.declared.header.HeaderReader.TheVariants as header
use Rattle.program_grammar.specs.declared.header.HeaderStep.{HeaderStep}
use Rattle.program_grammar.specs.declared.header.HeaderStep.TheVariants.{More, Ready}
use Rattle.program_grammar.specs.declared.header.Word.{Word}
use Rattle.program_grammar.specs.declared.header.Word.TheVariants as word
use Rattle.condition_grammar.specs.declared.fault.ConditionKind.{ConditionKind}
use Rattle.condition_grammar.specs.declared.fault.ConditionKind.TheVariants as condition
use Rattle.condition_grammar.specs.meaning.Grammar.{◌>>=◌, condition_of}
use Rattle.program_grammar.specs.meaning.Sizes.{size_in}

-- the word with which the awaited line begins
abbrev pub awaited_word : HeaderReader → Word
awaited_word header.Mode = word.Mode
awaited_word (header.Size m) = word.Size
awaited_word (header.Filter m n) = word.Filter
awaited_word (header.Match n f) = word.Match
awaited_word (header.Begin n f c) = word.Begin

-- the words are just this one, and just these two
abbrev pub is_word : List ℕ → List (List ℕ) → Bool
is_word text (w ∷ []) = bytes_eq w text
is_word text words = false

abbrev pub is_pair : List ℕ → List ℕ → List (List ℕ) → Bool
is_pair first second (w ∷ v ∷ []) = bytes_eq w first && bytes_eq v second
is_pair first second words = false

-- the first word is this one
abbrev pub is_first : List ℕ → List (List ℕ) → Bool
is_first text [] = false
is_first text (w ∷ words) = bytes_eq w text

-- `mode vertex` or `mode edge`
unfoldable pub mode_said : List (List ℕ) → Result Mode ProgramKind
mode_said words =
    if is_pair (codes "mode") (codes "vertex") words then Ok mode.Vertex
    else if is_pair (codes "mode") (codes "edge") words then Ok mode.Edge
    else Err BadLine

-- `size`, and 1 to 10 digits that give 1 to 8
abbrev pub in_range : Option ℕ → Result ℕ ProgramKind
in_range (Some n) = Ok n
in_range None = Err SizeRange

abbrev pub size_in_range : Option ℕ → Result ℕ ProgramKind
size_in_range None = Err BadLine
size_in_range (Some n) = in_range (size_in n)

-- the second of two words, of which the first is this one
abbrev pub value_of : List ℕ → List (List ℕ) → Option (List ℕ)
value_of text (w ∷ v ∷ []) = if bytes_eq w text then Some v else None
value_of text words = None

abbrev pub size_said : Option (List ℕ) → Result ℕ ProgramKind
size_said None = Err BadLine
size_said (Some digits) = size_in_range (number_of 10 digits)

unfoldable pub size_of : List (List ℕ) → Result ℕ ProgramKind
size_of words = size_said (value_of (codes "size") words)

-- why a line is refused whose condition is
abbrev pub kind_of_condition : ConditionKind → ProgramKind
kind_of_condition condition.BadForm = BadLine
kind_of_condition condition.TooDeep = TooDeep
kind_of_condition condition.TooLong = TooLong

abbrev pub in_line : {A : Type 0} → Result A ConditionKind → Result A ProgramKind
in_line (Ok x) = Ok x
in_line (Err f) = Err (kind_of_condition f)

-- a condition after the first word, which has to be this one
unfoldable pub condition_after_word : List ℕ → List ℕ → Names → Result (Cond × Names) ProgramKind
condition_after_word text line names = if is_first text (words_of line) then in_line (condition_of (rest_of line 1) names) else Err BadLine

-- the filter has to be falling in the job's mode
abbrev pub if_falling : Mode → Cond × Names → Result (FallingValue × Names) ProgramKind
if_falling m c = if is_falling m c.0 then Ok (record { mode = m; cond = c.0 }, c.1) else Err NotFalling

unfoldable pub filter_of : Mode → List ℕ → Names → Result (FallingValue × Names) ProgramKind
filter_of m line names = condition_after_word (codes "filter") line names >>= if_falling m

-- what the awaited line leads to, and the names then; or why it is refused
unfoldable pub awaited_line_said : HeaderReader → List ℕ → Names → Result (HeaderStep × Names) ProgramKind
awaited_line_said header.Mode line names = mode_said (words_of line) >>= λ m. Ok (More (header.Size m), names)
awaited_line_said (header.Size m) line names = size_of (words_of line) >>= λ n. Ok (More (header.Filter m n), names)
awaited_line_said (header.Filter m n) line names = filter_of m line names >>= λ f. Ok (More (header.Match n f.0), f.1)
awaited_line_said (header.Match n f) line names = condition_after_word (codes "match") line names >>= λ c. Ok (More (header.Begin n f c.0), c.1)
awaited_line_said (header.Begin n f c) line names =
    if is_word (codes "begin") (words_of line) then Ok (Ready (record { mode = f.mode; size = n; filter = f.cond; matching = c }), names)
    else Err BadLine

-- a line that says nothing leads on without a change
unfoldable pub header_said : HeaderReader → List ℕ → Names → Result (HeaderStep × Names) ProgramKind
header_said h line names = if is_nothing_line line then Ok (More h, names) else awaited_line_said h line names
