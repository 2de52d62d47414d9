-- The lines of a program as it is written say that program.
use Rattle.std.proofs.Common.{◌≡◌, ℕ, suc, ◌+◌, ◌<◌, ◌≤◌, true, false, cond, IsTrue, inr, nat_lt, nat_le, List, [], ◌∷◌, ◌++◌, length, None, Some, Result, Ok, Err, codes, refl, sym, ap, subst, ◌∙◌, arith, if◌then◌else◌}
use Rattle.std.specs.Prelude.{decimal}
use Rattle.std.specs.List.{filter, onto_first}
use Rattle.std.proofs.lemmas.Bool.{and_from, le-leb, lt-ltb, ne_eqb, or_from}
use Rattle.std.proofs.lemmas.Fmt.{decimal_digit}
use Rattle.graph_types.specs.meaning.Piece.{most_members}
use Rattle.graph_types.specs.declared.ids.Mode.{Mode}
use Rattle.graph_types.specs.declared.ids.Mode.TheVariants.{Vertex, Edge}
use Rattle.line_fields.specs.meaning.Fields.{has_bytes, is_blank, trim_start, words_of}
use Rattle.line_fields.proofs.WordsOf.{trim_start-first, words_of-first, words_of-trim_start}
use Rattle.line_fields.specs.meaning.Names.{Names, AreNames, most_names}
use Rattle.filter_polarity.specs.meaning.Program.{FallingValue, IsProgram, ProgramValue}
use Rattle.program_grammar.specs.declared.fault.ProgramKind.{ProgramKind}
use Rattle.program_grammar.specs.declared.fault.ProgramKind.TheVariants.{NotFalling}
use Rattle.program_grammar.specs.declared.header.HeaderReader.{HeaderReader}
use Rattle.program_grammar.specs.declared.header.HeaderReader.TheVariants as header
use Rattle.program_grammar.specs.declared.header.HeaderStep.{HeaderStep}
use Rattle.program_grammar.specs.declared.header.HeaderStep.TheVariants.{More, Ready}
use Rattle.condition_grammar.specs.meaning.Token.{Token}
use Rattle.condition_grammar.specs.meaning.Lexing.{tokens_of}
use Rattle.condition_grammar.specs.meaning.Grammar.{◌>>=◌, condition_of}
use Rattle.condition_grammar.specs.meaning.Text.{cond_text, knows_labels}
use Rattle.condition_grammar.proofs.Splitting.{tokens_of-blanks}
use Rattle.condition_grammar.proofs.Productions.{some_same}
use Rattle.condition_grammar.proofs.Digits.{ten_digits-decimal}
use Rattle.condition_grammar.proofs.ReadBack.{condition_of-written, some_tokens}
use Rattle.program_grammar.specs.meaning.Header.{condition_after_word, filter_of, header_said, if_falling, in_line, in_range, mode_said, awaited_line_said, size_in_range, size_of, size_said, value_of}
use Rattle.program_grammar.specs.meaning.Programs.{LinesFit, fits_next, outcome_after_line, lines_said, program_said}
use Rattle.program_grammar.specs.calls.Answers.{HasRoom}
use Rattle.program_grammar.specs.meaning.Text.{mode_text, program_text}

-- ---- words

-- a text with a token has a word
some_words : (text : List ℕ) (ts : List Token) → tokens_of text ≡ Some ts → 1 ≤ length ts → 1 ≤ length (words_of text)
some_words text ts lexed some = by_front (trim_start text) refl
  where
    by_front : (t : List ℕ) → trim_start text ≡ t → 1 ≤ length (words_of text)
    by_front [] e = let none : [] ≡ ts = some_same (sym (tokens_of-blanks text e) ∙ lexed) in absurd (omega (arith, some, ap length none))
    by_front (b ∷ bs) e =
        let first = words_of-first b bs (trim_start-first text b bs e) in
        omega (arith, ap length (sym (words_of-trim_start text) ∙ ap words_of e ∙ first.1))

-- a condition after its word
module _ (text : List ℕ) (names : Names) (some : 1 ≤ length (words_of text)) where
  two_words : nat_lt 1 (suc (length (words_of text))) ≡ true
  two_words = lt-ltb 1 (suc (length (words_of text))) (omega (arith, some))

  behind-filter : condition_after_word (codes "filter") (codes "filter " ++ text) names ≡ in_line (condition_of text names)
  unfolding condition_after_word condition_of tokens_of
  behind-filter = ap (λ b. in_line (condition_of (cond b (codes " " ++ text) []) names)) two_words

  behind-match : condition_after_word (codes "match") (codes "match " ++ text) names ≡ in_line (condition_of text names)
  unfolding condition_after_word condition_of tokens_of
  behind-match = ap (λ b. in_line (condition_of (cond b (codes " " ++ text) []) names)) two_words

-- ---- lines

module _ (names : Names) where
  mode_line : (m : Mode) → header_said header.Mode (codes "mode " ++ mode_text m) names ≡ Ok (More (header.Size m), names)
  unfolding header_said awaited_line_said mode_said
  mode_line Vertex = refl
  mode_line Edge = refl

  -- a number of one digit is one word
  one_word : (n : ℕ) → n < 10 → words_of (decimal n) ≡ decimal n ∷ []
  one_word n small =
      let digit = decimal_digit n small in
      let no_blank : is_blank (48 + n) ≡ false = or_from _ _ (ne_eqb (48 + n) 32 (λ e. omega (arith, e))) (ne_eqb (48 + n) 9 (λ e. omega (arith, e))) in
      ap words_of digit ∙ ap (λ b. filter has_bytes (cond b ([] ∷ [] ∷ []) (onto_first (48 + n) ([] ∷ [])))) no_blank ∙ ap (λ w. w ∷ []) (sym digit)

  size_line : (m : Mode) (n : ℕ) → 1 ≤ n → n ≤ most_members → header_said (header.Size m) (codes "size " ++ decimal n) names ≡ Ok (More (header.Filter m n), names)
  unfolding header_said awaited_line_said size_of
  size_line m n some few =
      ap (λ words. size_said (value_of (codes "size") (codes "size" ∷ words)) >>= λ n. Ok (More (header.Filter m n), names)) (one_word n (omega (arith, few)))
      ∙ ap (λ o. size_in_range o >>= λ n. Ok (More (header.Filter m n), names)) (ten_digits-decimal n (omega (arith, few)))
      ∙ ap (λ b. in_range (if b then Some n else None) >>= λ n. Ok (More (header.Filter m n), names)) (and_from (nat_le 1 n) (nat_le n most_members) (le-leb 1 n some) (le-leb n most_members few))

  begin_line : (n : ℕ) (p : ProgramValue) → n ≡ p.size → header_said (header.Begin n (record { mode = p.mode; cond = p.filter }) p.matching) (codes "begin") names ≡ Ok (Ready p, names)
  unfolding header_said awaited_line_said
  begin_line n p is = ap (λ n. Ok (Ready (record { mode = p.mode; size = n; filter = p.filter; matching = p.matching }), names)) is

  said-more : (h next : HeaderReader) (n : ℕ) (line : List ℕ) (lines : List (List ℕ)) → header_said h line names ≡ Ok (More next, names) → lines_said h n (line ∷ lines) names ≡ lines_said next (n + 1) lines names
  said-more h next n line lines read = ap (outcome_after_line (λ next after. lines_said next (n + 1) lines after) (n + 1) names) read

  -- there is room for the labels of a line that brings none, whatever it leads to
  fits-line : (h : HeaderReader) (step : HeaderStep) (line : List ℕ) (lines : List (List ℕ)) → length names ≤ most_names → header_said h line names ≡ Ok (step, names)
      → fits_next (λ next after. LinesFit next lines after) (Ok (step, names)) → LinesFit h (line ∷ lines) names
  fits-line h step line lines few read later =
      subst (λ (said : Result (HeaderStep × Names) ProgramKind). HasRoom names said × fits_next (λ next after. LinesFit next lines after) said) (sym read) (inr few, later)

  -- these premises are invariants of names and of programs, and what writing asks
  module _ (are : AreNames names) (p : ProgramValue) (program : IsProgram p) (filter_known : IsTrue (knows_labels names p.filter)) (matching_known : IsTrue (knows_labels names p.matching)) where
    abbrev of_filter : FallingValue
    of_filter = record { mode = p.mode; cond = p.filter }

    filter_line : header_said (header.Filter p.mode p.size) (codes "filter " ++ cond_text names p.filter) names ≡ Ok (More (header.Match p.size of_filter), names)
    unfolding header_said awaited_line_said filter_of
    filter_line =
        let tokens = some_tokens names are p.filter program.filter_within filter_known in
        let some = some_words (cond_text names p.filter) tokens.0 tokens.1 tokens.2 in
        let read : FallingValue × Names = (of_filter, names) in
        ap (λ r. r >>= if_falling p.mode >>= λ f. Ok (More (header.Match p.size f.0), f.1)) (behind-filter (cond_text names p.filter) names some ∙ ap in_line (condition_of-written names are p.filter program.filter_within filter_known))
        ∙ ap (λ b. (if b then Ok read else Err NotFalling) >>= λ f. Ok (More (header.Match p.size f.0), f.1)) program.falls

    match_line : header_said (header.Match p.size of_filter) (codes "match " ++ cond_text names p.matching) names ≡ Ok (More (header.Begin p.size of_filter p.matching), names)
    unfolding header_said awaited_line_said
    match_line =
        let tokens = some_tokens names are p.matching program.matching_within matching_known in
        let some = some_words (cond_text names p.matching) tokens.0 tokens.1 tokens.2 in
        ap (λ r. r >>= λ c. Ok (More (header.Begin p.size of_filter c.0), c.1)) (behind-match (cond_text names p.matching) names some ∙ ap in_line (condition_of-written names are p.matching program.matching_within matching_known))

    abbrev lines_from_match : List (List ℕ)
    lines_from_match = (codes "match " ++ cond_text names p.matching) ∷ codes "begin" ∷ []

    abbrev lines_from_filter : List (List ℕ)
    lines_from_filter = (codes "filter " ++ cond_text names p.filter) ∷ lines_from_match

    abbrev lines_from_size : List (List ℕ)
    lines_from_size = (codes "size " ++ decimal p.size) ∷ lines_from_filter

    -- reading what is written gives the program, and no name is new
    pub program_said-written : program_said (program_text names p) names ≡ (Ok p, names)
    program_said-written =
        said-more header.Mode (header.Size p.mode) 0 (codes "mode " ++ mode_text p.mode) lines_from_size (mode_line p.mode)
        ∙ said-more (header.Size p.mode) (header.Filter p.mode p.size) 1 (codes "size " ++ decimal p.size) lines_from_filter (size_line p.mode p.size program.some_member program.few_members)
        ∙ said-more (header.Filter p.mode p.size) (header.Match p.size of_filter) 2 (codes "filter " ++ cond_text names p.filter) lines_from_match filter_line
        ∙ said-more (header.Match p.size of_filter) (header.Begin p.size of_filter p.matching) 3 (codes "match " ++ cond_text names p.matching) (codes "begin" ∷ []) match_line
        ∙ ap (outcome_after_line (λ next after. lines_said next 5 [] after) 5 names) (begin_line p.size p refl)

    pub LinesFit-written : LinesFit header.Mode (program_text names p) names
    LinesFit-written =
        fits-line header.Mode (More (header.Size p.mode)) (codes "mode " ++ mode_text p.mode) lines_from_size are.few (mode_line p.mode)
        (fits-line (header.Size p.mode) (More (header.Filter p.mode p.size)) (codes "size " ++ decimal p.size) lines_from_filter are.few (size_line p.mode p.size program.some_member program.few_members)
        (fits-line (header.Filter p.mode p.size) (More (header.Match p.size of_filter)) (codes "filter " ++ cond_text names p.filter) lines_from_match are.few filter_line
        (fits-line (header.Match p.size of_filter) (More (header.Begin p.size of_filter p.matching)) (codes "match " ++ cond_text names p.matching) (codes "begin" ∷ []) are.few match_line
        (fits-line (header.Begin p.size of_filter p.matching) (Ready p) (codes "begin") [] are.few (begin_line p.size p refl) tt))))
