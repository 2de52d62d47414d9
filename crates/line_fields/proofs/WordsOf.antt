-- The words of a line, one by one from its start.
use Rattle.std.proofs.Common.{◌≡◌, ℕ, suc, ◌+◌, ◌-◌, ◌<◌, ◌≤◌, Bool, true, false, not, cond, ltb, eqb, List, [], ◌∷◌, Option, None, Some, Bor, slice_get, option_map, MatchOption, inl, inr, add-one, length, get_or, refl, sym, ◌∙◌, ap, arith}
use Rattle.std.specs.List.{slice_split, onto_first, filter}
use Rattle.std.proofs.lemmas.List.Splits.{slice_split-cons_yes, slice_split-cons_no}
use Rattle.std.proofs.lemmas.List.{nil_from_length}
use Rattle.std.proofs.lemmas.Option.{slice_get-get_or}
use Rattle.std.proofs.lemmas.Bool.{lt-ltb, le-ltb, ne_eqb, cases_lt}
use Rattle.std.proofs.lemmas.Bool.Decides.{nat_tests}
use Rattle.line_fields.specs.meaning.Fields.{is_blank, has_bytes, words_of, trim_start, after_word, skip_words, rest_of, is_nothing_line, is_nothing_words}

-- a blank before a line adds no word
words_of-blank : (b : ℕ) (line : List ℕ) → is_blank b ≡ true → words_of (b ∷ line) ≡ words_of line
words_of-blank b line blank = ap (filter has_bytes) (slice_split-cons_yes is_blank b line blank)

-- blanks before a line add no words
pub words_of-trim_start : (line : List ℕ) → words_of (trim_start line) ≡ words_of line
words_of-trim_start [] = refl
words_of-trim_start (b ∷ line) =
    let by_test : (t : Bool) → is_blank b ≡ t → words_of (cond t (trim_start line) (b ∷ line)) ≡ words_of (b ∷ line) =
    elim [
      | true ↦ λ e. words_of-trim_start line ∙ sym (words_of-blank b line e)
      | false ↦ λ _. refl
    ] in
    by_test (is_blank b) refl

-- the bytes up to the first blank are the first part, and after it stand the words of the other parts
record FirstPart (line : List ℕ) : Type 0 where
  part : List ℕ
  parts : List (List ℕ)
  split : slice_split is_blank line ≡ part ∷ parts
  behind : words_of (after_word line) ≡ filter has_bytes parts

FirstPart-of : (line : List ℕ) → FirstPart line
FirstPart-of [] = record { part = []; parts = []; split = refl; behind = refl }
FirstPart-of (b ∷ line) =
    let by_test : (t : Bool) → is_blank b ≡ t → FirstPart (b ∷ line) =
    elim [
      | true ↦ λ e. record {
        part = [];
        parts = slice_split is_blank line;
        split = slice_split-cons_yes is_blank b line e;
        behind = ap (λ t. words_of (cond t (b ∷ line) (after_word line))) e ∙ words_of-blank b line e;
      }
      | false ↦ λ e. let first = FirstPart-of line in record {
        part = b ∷ first.part;
        parts = first.parts;
        split = slice_split-cons_no is_blank b line e ∙ ap (onto_first b) first.split;
        behind = ap (λ t. words_of (cond t (b ∷ line) (after_word line))) e ∙ first.behind;
      }
    ] in
    by_test (is_blank b) refl

-- a line that begins with no blank begins with a word
pub words_of-first : (b : ℕ) (line : List ℕ) → is_blank b ≡ false → (word : List ℕ) × (words_of (b ∷ line) ≡ (b ∷ word) ∷ words_of (after_word line))
words_of-first b line e =
    let first = FirstPart-of line in
    (first.part, ap (filter has_bytes) (slice_split-cons_no is_blank b line e ∙ ap (onto_first b) first.split) ∙ ap (λ words. (b ∷ first.part) ∷ words) (sym first.behind))

-- what is left of a line without the blanks before it begins with no blank
pub trim_start-first : (line : List ℕ) (b : ℕ) (bs : List ℕ) → trim_start line ≡ b ∷ bs → is_blank b ≡ false
trim_start-first [] b bs e = cc
trim_start-first (c ∷ line) b bs e =
    let by_test : (t : Bool) → is_blank c ≡ t → cond t (trim_start line) (c ∷ line) ≡ b ∷ bs → is_blank b ≡ false =
    elim [
      | true ↦ λ _ e. trim_start-first line b bs e
      | false ↦ λ no e. let same : c ≡ b = cc in ap is_blank (sym same) ∙ no
    ] in
    by_test (is_blank c) refl e

-- a line of blanks alone says nothing
pub is_nothing-blank : (line : List ℕ) → length (trim_start line) ≡ 0 → is_nothing_line line ≡ true
is_nothing-blank line none =
    ap is_nothing_words (sym (words_of-trim_start line) ∙ ap words_of (nil_from_length (trim_start line) none))

-- another one shows by its first byte that is no blank whether it says something
pub is_nothing-first : (line : List ℕ) → 0 < length (trim_start line) → is_nothing_line line ≡ eqb (get_or (trim_start line) 0 0) 35
is_nothing-first line some =
    let by_rest : (t : List ℕ) → trim_start line ≡ t → 0 < length t → is_nothing_words (words_of t) ≡ eqb (get_or t 0 0) 35 =
    elim [
      | [] ↦ λ _ some. absurd (omega arith)
      | b ∷ bs ↦ λ e _. ap is_nothing_words (words_of-first b bs (trim_start-first line b bs e)).1
    ] in
    ap is_nothing_words (sym (words_of-trim_start line)) ∙ by_rest (trim_start line) refl some

-- how many words stand after the first one
pub length-words_behind : (line : List ℕ) → length (words_of (after_word (trim_start line))) ≡ length (words_of line) - 1
length-words_behind line =
    let by_rest : (t : List ℕ) → trim_start line ≡ t → length (words_of (after_word t)) ≡ length (words_of t) - 1 =
    elim [
      | [] ↦ λ _. refl
      | b ∷ bs ↦ λ e.
          let no = trim_start-first line b bs e in
          let first = words_of-first b bs no in
          let skipped : words_of (after_word (b ∷ bs)) ≡ words_of (after_word bs) = ap (λ t. words_of (cond t (b ∷ bs) (after_word bs))) no in
          ap length skipped ∙ omega (arith, ap length first.1)
    ] in
    by_rest (trim_start line) refl ∙ ap (λ words. length words - 1) (words_of-trim_start line)

-- to skip one word, and then m, is to skip m + 1
pub rest_of-step : (line : List ℕ) (m n : ℕ) → m + 1 ≡ n → rest_of (after_word (trim_start line)) m ≡ rest_of line n
rest_of-step line m n one_more =
    let skipped : List ℕ = skip_words m (after_word (trim_start line)) in
    let within : ltb m (length (words_of line) - 1) ≡ ltb (suc m) (length (words_of line)) = grind (arith, nat_tests) in
    ap (λ k. cond (ltb m k) skipped []) (length-words_behind line)
    ∙ ap (λ t. cond t skipped []) within
    ∙ ap (rest_of line) (sym (add-one m) ∙ one_more)

pub rest_of-empty : (line : List ℕ) (k : ℕ) → length line ≡ 0 → rest_of line k ≡ []
rest_of-empty line k none =
    ap (λ text. rest_of text k) (nil_from_length line none) ∙ ap (λ t. cond t (skip_words k []) []) (le-ltb k 0 (omega arith))

pub rest_of-blank : (line : List ℕ) → length (trim_start line) ≡ 0 → rest_of line 0 ≡ []
rest_of-blank line none =
    ap (λ words. cond (ltb 0 (length words)) line []) (sym (words_of-trim_start line) ∙ ap words_of (nil_from_length (trim_start line) none))

pub rest_of-word : (line : List ℕ) → 0 < length (trim_start line) → rest_of line 0 ≡ line
rest_of-word line some =
    let by_rest : (t : List ℕ) → trim_start line ≡ t → 0 < length t → cond (ltb 0 (length (words_of t))) line [] ≡ line =
    elim [
      | [] ↦ λ _ some. absurd (omega arith)
      | b ∷ bs ↦ λ e _.
          let first = words_of-first b bs (trim_start-first line b bs e) in
          ap (λ words. cond (ltb 0 (length words)) line []) first.1 ∙ ap (λ t. cond t line []) (lt-ltb 0 (length ((b ∷ first.0) ∷ words_of (after_word bs))) (omega arith))
    ] in
    ap (λ words. cond (ltb 0 (length words)) line []) (sym (words_of-trim_start line)) ∙ by_rest (trim_start line) refl some

-- a part is a word where it is not empty
pub has_bytes-not_empty : (part : List ℕ) → not (eqb (length part) 0) ≡ has_bytes part
has_bytes-not_empty [] = refl
has_bytes-not_empty (b ∷ bs) = ap not (ne_eqb (length (b ∷ bs)) 0 (λ e. omega arith))

-- what a look-up gave says which word stands there, or that none does
pub finds_word : (line : List ℕ) (i : ℕ) (found : Option (Bor (List ℕ))) → option_map (λ word. word.now) found ≡ slice_get (words_of line) i
    → MatchOption found (length (words_of line) ≤ i) (λ word. slice_get (words_of line) i ≡ Some word.now)
finds_word line i None same =
    let none : slice_get (words_of line) i ≡ None = sym same in
    elim (cases_lt i (length (words_of line))) [
      | inl within ↦ let found = sym none ∙ slice_get-get_or (words_of line) i [] within in absurd (let other : None ≡ Some (get_or (words_of line) i []) = found in cc)
      | inr past ↦ past
    ]
finds_word line i (Some word) same = sym same
