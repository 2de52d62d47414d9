-- Settings are read as they are written.
use Rattle.std.proofs.Common.{◌≡◌, ℕ, suc, ◌+◌, ◌<◌, Bool, true, false, not, cond, ◌||◌, nat_lt, List, [], ◌∷◌, ◌++◌, length, take, drop, map, None, Some, refl, ap, subst, ◌∙◌, arith, length-append}
use Rattle.std.specs.List.{position, position_or_len, list_any, AllByRecursion}
use Rattle.std.specs.Option.{option_map}
use Rattle.std.proofs.lemmas.Bool.Decides.{nat_tests}
use Rattle.std.proofs.lemmas.List.{append-nil}
use Rattle.command_words.specs.meaning.Words.{is_equals, setting_of, setting_of_text, settings_of}
use Rattle.command_words.specs.meaning.Spelling.{Spelled, in_one_word, in_two_words, HasPlainName, all_words, setting_spelled}
use Rattle.command_words.proofs.Splitting.{settings_of-one_word, settings_of-two_words}

-- ---- the first `=` after a name without one

first_not : (a b : Bool) → (a || b) ≡ false → (a ≡ false) × (b ≡ false)
first_not true b is = absurd (let e : true ≡ false = is in cc)
first_not false b is = (refl, is)

place_after : (name rest : List ℕ) → list_any is_equals name ≡ false →
    position_or_len is_equals (name ++ rest) ≡ length name + position_or_len is_equals rest
place_after [] rest plain = omega arith
place_after (b ∷ name) rest plain =
    let parts = first_not (is_equals b) (list_any is_equals name) plain in
    let later = place_after name rest parts.1 in
    ap (λ t. cond (not t) (1 + position_or_len is_equals (name ++ rest)) 0) parts.0 ∙ omega (arith, later)

place : (name value : List ℕ) → list_any is_equals name ≡ false →
    position is_equals (name ++ 61 ∷ value) ≡ Some (length name)
place name value plain =
    let text = name ++ 61 ∷ value in
    let at : position_or_len is_equals text ≡ length name = place_after name (61 ∷ value) plain ∙ omega arith in
    let below : length name < length text = omega (arith, length-append name (61 ∷ value)) in
    let within : nat_lt (length name) (length text) ≡ true = grind (arith, nat_tests, below) in
    ap (λ i. cond (nat_lt i (length text)) (Some i) None) at ∙ ap (λ b. cond b (Some (length name)) None) within

no_place : (name : List ℕ) → list_any is_equals name ≡ false → position is_equals name ≡ None
no_place name plain =
    let at : position_or_len is_equals name ≡ length name =
    subst (λ text. position_or_len is_equals text ≡ length name) (append-nil name) (place_after name [] plain ∙ omega arith) in
    let outside : nat_lt (length name) (length name) ≡ false = grind (arith, nat_tests) in
    ap (λ i. cond (nat_lt i (length name)) (Some i) None) at ∙ ap (λ b. cond b (Some (length name)) None) outside

-- ---- the parts

name_before : (name rest : List ℕ) → take (length name) (name ++ rest) ≡ name
name_before [] rest = refl
name_before (b ∷ name) rest = ap (λ bs. b ∷ bs) (name_before name rest)

value_after : (name : List ℕ) (b : ℕ) (value : List ℕ) → drop (length name + 1) (name ++ b ∷ value) ≡ value
value_after [] b value = refl
value_after (c ∷ name) b value =
    let more : length (c ∷ name) + 1 ≡ suc (length name + 1) = omega arith in
    ap (λ k. drop k (c ∷ name ++ b ∷ value)) more ∙ value_after name b value

parted : (name value : List ℕ) → list_any is_equals name ≡ false →
    setting_of_text (name ++ 61 ∷ value) ≡ Some (setting_of name value)
parted name value plain =
    let text = name ++ 61 ∷ value in
    ap (option_map (λ i. setting_of (take i text) (drop (i + 1) text))) (place name value plain)
    ∙ ap (λ n. Some (setting_of n (drop (length name + 1) text))) (name_before name (61 ∷ value))
    ∙ ap (λ v. Some (setting_of name v)) (value_after name 61 value)

not_parted : (name : List ℕ) → list_any is_equals name ≡ false → setting_of_text name ≡ None
not_parted name plain = ap (option_map (λ i. setting_of (take i name) (drop (i + 1) name))) (no_place name plain)

pub read_as_written : (written : List Spelled) → AllByRecursion HasPlainName written →
    settings_of (all_words written) ≡ Some (map setting_spelled written)
read_as_written [] plain = refl
read_as_written (in_one_word name value ∷ more) plain =
    settings_of-one_word (45 ∷ 45 ∷ name ++ 61 ∷ value) (all_words more) (setting_of name value)
    (parted name value plain.0)
    ∙ ap (option_map (λ more. setting_of name value ∷ more)) (read_as_written more plain.1)
read_as_written (in_two_words name value ∷ more) plain =
    settings_of-two_words (45 ∷ 45 ∷ name) value (all_words more) (setting_of name value)
    (not_parted name plain.0) refl
    ∙ ap (option_map (λ more. setting_of name value ∷ more)) (read_as_written more plain.1)
