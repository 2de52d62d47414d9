-- Each label of a program that was read has a name among the names then.
use Rattle.std.proofs.Common.{◌≡◌, ℕ, ◌+◌, Bool, true, false, IsTrue, List, [], ◌∷◌, Result, Ok, Err, codes, refl, ap, subst, if◌then◌else◌}
use Rattle.graph_types.specs.declared.ids.Mode.{Mode}
use Rattle.line_fields.specs.meaning.Fields.{is_nothing_line, rest_of, words_of}
use Rattle.line_fields.specs.meaning.Names.{Names}
use Rattle.conditions.specs.declared.condition.Cond.{Cond}
use Rattle.filter_polarity.specs.meaning.Polarity.{is_falling}
use Rattle.filter_polarity.specs.meaning.Program.{FallingValue, ProgramValue}
use Rattle.program_grammar.specs.declared.fault.ProgramKind.{ProgramKind}
use Rattle.program_grammar.specs.declared.fault.ProgramKind.TheVariants.{BadLine, NotFalling}
use Rattle.program_grammar.specs.declared.header.HeaderReader.{HeaderReader}
use Rattle.program_grammar.specs.declared.header.HeaderReader.TheVariants as header
use Rattle.program_grammar.specs.declared.header.HeaderStep.{HeaderStep}
use Rattle.program_grammar.specs.declared.header.HeaderStep.TheVariants.{More, Ready}
use Rattle.condition_grammar.specs.declared.fault.ConditionKind.{ConditionKind}
use Rattle.condition_grammar.specs.meaning.Grammar.{condition_of}
use Rattle.condition_grammar.specs.meaning.Text.{knows_labels}
use Rattle.condition_grammar.proofs.Productions.{bind_ok, chosen_ok, ok_same}
use Rattle.condition_grammar.proofs.Known.{KnownThen, condition_of-known, still_known}
use Rattle.program_grammar.specs.meaning.Header.{condition_after_word, in_line, kind_of_condition, filter_of, header_said, if_falling, is_first, is_word, mode_said, awaited_line_said, size_of}
use Rattle.program_grammar.specs.meaning.Programs.{ProgramOutcome, outcome_after_line, lines_said, program_said}

-- the labels of a program are known
abbrev pub KnownProgram : Names → ProgramValue → Type 0
KnownProgram names p = IsTrue (knows_labels names p.filter) × IsTrue (knows_labels names p.matching)

-- the labels of what was read so far are known
abbrev KnownSoFar : HeaderReader → Names → Type 0
KnownSoFar header.Mode names = Unit {0}
KnownSoFar (header.Size m) names = Unit {0}
KnownSoFar (header.Filter m n) names = Unit {0}
KnownSoFar (header.Match n f) names = IsTrue (knows_labels names f.cond)
KnownSoFar (header.Begin n f c) names = IsTrue (knows_labels names f.cond) × IsTrue (knows_labels names c)

abbrev KnownStep : HeaderStep × Names → Type 0
KnownStep (More next, names) = KnownSoFar next names
KnownStep (Ready p, names) = KnownProgram names p

behind-known : (text line : List ℕ) (names : Names) (x : Cond × Names) → condition_after_word text line names ≡ Ok x → KnownThen names x
unfolding condition_after_word
behind-known text line names x h = by_test (is_first text (words_of line)) h
  where
    read_ok : (r : Result (Cond × Names) ConditionKind) → in_line r ≡ Ok x → r ≡ Ok x
    read_ok (Ok y) e = ap Ok (ok_same e)
    read_ok (Err f) e = absurd (let no : Err (kind_of_condition f) ≡ Ok x = e in cc)

    by_test : (b : Bool) → (if b then in_line (condition_of (rest_of line 1) names) else Err BadLine) ≡ Ok x → KnownThen names x
    by_test true e = condition_of-known (rest_of line 1) names x (read_ok (condition_of (rest_of line 1) names) e)
    by_test false e = absurd (let no : Err BadLine ≡ Ok x = e in cc)

filter-known : (m : Mode) (line : List ℕ) (names : Names) (x : FallingValue × Names) → filter_of m line names ≡ Ok x → IsTrue (knows_labels x.1 x.0.cond)
unfolding filter_of
filter-known m line names x h =
    let (c, read, falls) = bind_ok (condition_after_word (codes "filter") line names) (if_falling m) x h in
    by_test c (behind-known (codes "filter") line names c read).known (is_falling m c.0) falls
  where
    by_test : (c : Cond × Names) → IsTrue (knows_labels c.1 c.0) → (b : Bool) → (if b then Ok (record { mode = m; cond = c.0 }, c.1) else Err NotFalling) ≡ Ok x → IsTrue (knows_labels x.1 x.0.cond)
    by_test c known true e =
        let equal : (record { mode = m; cond = c.0 }, c.1) ≡ x = ok_same e in
        subst (λ (y : FallingValue × Names). IsTrue (knows_labels y.1 y.0.cond)) equal known
    by_test c known false e = absurd (let no : Err NotFalling ≡ Ok x = e in cc)

said-known : (h : HeaderReader) (line : List ℕ) (names : Names) (x : HeaderStep × Names) → KnownSoFar h names → awaited_line_said h line names ≡ Ok x → KnownStep x
unfolding awaited_line_said
said-known header.Mode line names x known h =
    let (m, read, done) = bind_ok (mode_said (words_of line)) (λ m. Ok (More (header.Size m), names)) x h in
    let equal : (More (header.Size m), names) ≡ x = ok_same done in
    subst KnownStep equal tt
said-known (header.Size m) line names x known h =
    let (n, read, done) = bind_ok (size_of (words_of line)) (λ n. Ok (More (header.Filter m n), names)) x h in
    let equal : (More (header.Filter m n), names) ≡ x = ok_same done in
    subst KnownStep equal tt
said-known (header.Filter m n) line names x known h =
    let (f, read, done) = bind_ok (filter_of m line names) (λ f. Ok (More (header.Match n f.0), f.1)) x h in
    let equal : (More (header.Match n f.0), f.1) ≡ x = ok_same done in
    subst KnownStep equal (filter-known m line names f read)
said-known (header.Match n f) line names x known h =
    let (c, read, done) = bind_ok (condition_after_word (codes "match") line names) (λ c. Ok (More (header.Begin n f c.0), c.1)) x h in
    let equal : (More (header.Begin n f c.0), c.1) ≡ x = ok_same done in
    let it = behind-known (codes "match") line names c read in
    subst KnownStep equal (still_known names c.1 it.leads f.cond known, it.known)
said-known (header.Begin n f c) line names x known h =
    let p : ProgramValue = record { mode = f.mode; size = n; filter = f.cond; matching = c } in
    let equal = chosen_ok (is_word (codes "begin") (words_of line)) BadLine (Ready p, names) x h in
    subst KnownStep equal known

line-known : (h : HeaderReader) (line : List ℕ) (names : Names) (x : HeaderStep × Names) → KnownSoFar h names → header_said h line names ≡ Ok x → KnownStep x
unfolding header_said
line-known h line names x known e = by_test (is_nothing_line line) e
  where
    by_test : (b : Bool) → (if b then Ok (More h, names) else awaited_line_said h line names) ≡ Ok x → KnownStep x
    by_test true e = let equal : (More h, names) ≡ x = ok_same e in subst KnownStep equal known
    by_test false e = said-known h line names x known e

-- what lines say, judged
abbrev KnownJudged : ProgramOutcome → Type 0
KnownJudged (Ok p, after) = KnownProgram after p
KnownJudged (Err f, after) = Unit {0}

judged-known : (later : HeaderReader → Names → ProgramOutcome) (n : ℕ) (names : Names) (said : Result (HeaderStep × Names) ProgramKind) → ((next : HeaderReader) (after : Names) → KnownSoFar next after → KnownJudged (later next after))
    → ((x : HeaderStep × Names) → said ≡ Ok x → KnownStep x) → KnownJudged (outcome_after_line later n names said)
judged-known later n names (Ok (More next, after)) behind known = behind next after (known (More next, after) refl)
judged-known later n names (Ok (Ready p, after)) behind known = known (Ready p, after) refl
judged-known later n names (Err kind) behind known = tt

lines-known : (lines : List (List ℕ)) (h : HeaderReader) (n : ℕ) (names : Names) → KnownSoFar h names → KnownJudged (lines_said h n lines names)
lines-known [] h n names known = tt
lines-known (line ∷ lines) h n names known =
    judged-known (λ next after. lines_said next (n + 1) lines after) (n + 1) names (header_said h line names) (λ next after later. lines-known lines next (n + 1) after later) (λ x e. line-known h line names x known e)

-- a program that was read can be written with the names then
pub program-known : (lines : List (List ℕ)) (names after : Names) (p : ProgramValue) → program_said lines names ≡ (Ok p, after) → KnownProgram after p
program-known lines names after p said = subst KnownJudged said (lines-known lines header.Mode 0 names tt)
