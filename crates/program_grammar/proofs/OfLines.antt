-- What a header refuses can be told of a line.
use Rattle.std.proofs.Common.{◌≡◌, ℕ, Bool, true, false, List, Option, None, Some, Result, Ok, Err, codes, subst, if◌then◌else◌}
use Rattle.graph_types.specs.declared.ids.Mode.{Mode}
use Rattle.line_fields.specs.meaning.Fields.{is_nothing_line, number_of, rest_of, words_of}
use Rattle.line_fields.specs.meaning.Names.{Names}
use Rattle.condition_grammar.specs.declared.fault.ConditionKind.{ConditionKind}
use Rattle.condition_grammar.specs.declared.fault.ConditionKind.TheVariants.{BadForm, TooDeep, TooLong}
use Rattle.condition_grammar.specs.meaning.Grammar.{◌>>=◌, condition_of}
use Rattle.filter_polarity.specs.meaning.Polarity.{is_falling}
use Rattle.program_grammar.specs.declared.fault.ProgramKind.{ProgramKind}
use Rattle.program_grammar.specs.declared.header.HeaderReader.{HeaderReader}
use Rattle.program_grammar.specs.declared.header.HeaderReader.TheVariants as header
use Rattle.program_grammar.specs.calls.Answers.{IsOfLine}
use Rattle.program_grammar.specs.meaning.Sizes.{size_in}
use Rattle.program_grammar.specs.meaning.Header.{awaited_line_said, condition_after_word, filter_of, header_said, if_falling, in_line, in_range, is_first, is_pair, is_word, mode_said, size_in_range, size_of, size_said, value_of}

-- what is refused can be told of a line
abbrev OfLine : {A : Type 0} → Result A ProgramKind → Type 0
OfLine (Ok x) = Unit {0}
OfLine (Err kind) = IsOfLine kind

chained : {A B : Type 0} (r : Result A ProgramKind) (f : A → Result B ProgramKind) → OfLine r → ((x : A) → OfLine (f x)) → OfLine (r >>= f)
chained (Ok x) f first later = later x
chained (Err kind) f first later = first

chosen : {A : Type 0} (b : Bool) (x y : Result A ProgramKind) → OfLine x → OfLine y → OfLine (if b then x else y)
chosen true x y first second = first
chosen false x y first second = second

in_line-tells : {A : Type 0} (r : Result A ConditionKind) → OfLine (in_line r)
in_line-tells (Ok x) = tt
in_line-tells (Err BadForm) = tt
in_line-tells (Err TooDeep) = tt
in_line-tells (Err TooLong) = tt

-- the lines of a header

mode_said-tells : (words : List (List ℕ)) → OfLine (mode_said words)
unfolding mode_said
mode_said-tells words =
    chosen (is_pair (codes "mode") (codes "vertex") words) _ _ tt (chosen (is_pair (codes "mode") (codes "edge") words) _ _ tt tt)

size_of-tells : (words : List (List ℕ)) → OfLine (size_of words)
unfolding size_of
size_of-tells words = by_digits (value_of (codes "size") words)
  where
    in_range-tells : (o : Option ℕ) → OfLine (in_range o)
    in_range-tells None = tt
    in_range-tells (Some n) = tt

    by_number : (o : Option ℕ) → OfLine (size_in_range o)
    by_number None = tt
    by_number (Some n) = in_range-tells (size_in n)

    by_digits : (o : Option (List ℕ)) → OfLine (size_said o)
    by_digits None = tt
    by_digits (Some digits) = by_number (number_of 10 digits)

condition_after_word-tells : (text line : List ℕ) (names : Names) → OfLine (condition_after_word text line names)
unfolding condition_after_word
condition_after_word-tells text line names = chosen (is_first text (words_of line)) _ _ (in_line-tells (condition_of (rest_of line 1) names)) tt

filter_of-tells : (m : Mode) (line : List ℕ) (names : Names) → OfLine (filter_of m line names)
unfolding filter_of
filter_of-tells m line names =
    chained (condition_after_word (codes "filter") line names) (if_falling m) (condition_after_word-tells (codes "filter") line names) (λ c. chosen (is_falling m c.0) _ _ tt tt)

awaited_line_said-tells : (h : HeaderReader) (line : List ℕ) (names : Names) → OfLine (awaited_line_said h line names)
unfolding awaited_line_said
awaited_line_said-tells header.Mode line names = chained (mode_said (words_of line)) _ (mode_said-tells (words_of line)) (λ _. tt)
awaited_line_said-tells (header.Size m) line names = chained (size_of (words_of line)) _ (size_of-tells (words_of line)) (λ _. tt)
awaited_line_said-tells (header.Filter m n) line names = chained (filter_of m line names) _ (filter_of-tells m line names) (λ _. tt)
awaited_line_said-tells (header.Match n f) line names =
    chained (condition_after_word (codes "match") line names) _ (condition_after_word-tells (codes "match") line names) (λ _. tt)
awaited_line_said-tells (header.Begin n f c) line names = chosen (is_word (codes "begin") (words_of line)) _ _ tt tt

header_said-tells : (h : HeaderReader) (line : List ℕ) (names : Names) → OfLine (header_said h line names)
unfolding header_said
header_said-tells h line names = chosen (is_nothing_line line) _ _ tt (awaited_line_said-tells h line names)

-- what a line of a header is refused as can be told of it
pub refused_of_line : (h : HeaderReader) (line : List ℕ) (names : Names) (kind : ProgramKind) → header_said h line names ≡ Err kind → IsOfLine kind
refused_of_line h line names kind refused = subst OfLine refused (header_said-tells h line names)
