-- The fields of a line: its words, and what a word says.
use Rattle.std.specs.Prelude.{ℕ, zero, suc, ◌+◌, ◌*◌, ◌-◌, ◌^◌, Bool, true, false, ◌&&◌, ◌||◌, List, [], ◌∷◌, length, filter, eqb, nat_le, nat_lt, Option, None, Some, if◌then◌else◌}
use Rattle.std.specs.List.{slice_split, list_all}

-- a space or a tab
abbrev pub is_blank : ℕ → Bool
is_blank b = eqb b 32 || eqb b 9

abbrev pub has_bytes : List ℕ → Bool
has_bytes [] = false
has_bytes (b ∷ bs) = true

-- the longest runs of bytes that are no blanks
abbrev pub words_of : List ℕ → List (List ℕ)
words_of line = filter has_bytes (slice_split is_blank line)

-- what stands from the first byte on that is no blank
abbrev pub trim_start : List ℕ → List ℕ
trim_start [] = []
trim_start (b ∷ bs) = if is_blank b then trim_start bs else b ∷ bs

-- what stands from the first blank on
abbrev pub after_word : List ℕ → List ℕ
after_word [] = []
after_word (b ∷ bs) = if is_blank b then b ∷ bs else after_word bs

-- what stands after the first i words
abbrev pub skip_words : ℕ → List ℕ → List ℕ
skip_words zero line = line
skip_words (suc i) line = skip_words i (after_word (trim_start line))

-- the same, but nothing where no word follows
abbrev pub rest_of : List ℕ → ℕ → List ℕ
rest_of line i = if nat_lt i (length (words_of line)) then skip_words i line else []

-- no word, or a first word that begins with `#`
abbrev pub is_nothing_words : List (List ℕ) → Bool
is_nothing_words [] = true
is_nothing_words ([] ∷ words) = false
is_nothing_words ((b ∷ bs) ∷ words) = eqb b 35

-- the line says nothing: it is blank or a comment
abbrev pub is_nothing_line : List ℕ → Bool
is_nothing_line line = is_nothing_words (words_of line)

abbrev pub is_dash : ℕ → Bool
is_dash b = eqb b 45

abbrev pub is_digit : ℕ → Bool
is_digit b = nat_le 48 b && nat_le b 57

-- the value of decimal digits that follow a number n
abbrev pub value_after : ℕ → List ℕ → ℕ
value_after n [] = n
value_after n (d ∷ ds) = value_after (10 * n + (d - 48)) ds

-- a number with one more digit after it, where it fits 64 bits
abbrev pub with_digit : ℕ → ℕ → Option ℕ
with_digit n d = if is_digit d && nat_lt (10 * n + (d - 48)) (2 ^ 64) then Some (10 * n + (d - 48)) else None

-- 1 to `most` decimal digits
abbrev pub is_number : ℕ → List ℕ → Bool
is_number most word = has_bytes word && nat_le (length word) most && list_all is_digit word

-- the number that 1 to `most` decimal digits give, where it fits 64 bits
abbrev pub number_of : ℕ → List ℕ → Option ℕ
number_of most word = if is_number most word && nat_lt (value_after 0 word) (2 ^ 64) then Some (value_after 0 word) else None

-- the id that 1 to 10 decimal digits give, where it fits 32 bits
abbrev pub id_of : List ℕ → Option ℕ
id_of word = if is_number 10 word && nat_lt (value_after 0 word) (2 ^ 32) then Some (value_after 0 word) else None

abbrev pub is_letter : ℕ → Bool
is_letter b = (nat_le 65 b && nat_le b 90) || (nat_le 97 b && nat_le b 122)

-- a letter or `_`
abbrev pub is_label_start : ℕ → Bool
is_label_start b = is_letter b || eqb b 95

-- a letter, a digit, `_` or `-`
abbrev pub is_label_byte : ℕ → Bool
is_label_byte b = is_label_start b || is_digit b || eqb b 45

-- 1 to 32 bytes of a label, the first one no digit and no `-`
abbrev pub is_label_word : List ℕ → Bool
is_label_word [] = false
is_label_word (b ∷ bs) = is_label_start b && list_all is_label_byte bs && nat_le (length bs) 31
