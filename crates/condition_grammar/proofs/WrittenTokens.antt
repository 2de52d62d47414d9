-- The tokens of a program as it is written, and that its text has them.
use Rattle.std.proofs.Common.{◌≡◌, ℕ, zero, suc, ◌^◌, ◌<◌, ◌≤◌, Bool, true, false, cond, not, ◌&&◌, ◌||◌, IsTrue, inl, inr, eqb, leb, nat_lt, nat_le, List, [], ◌∷◌, ◌++◌, length, drop, None, Some, option_map, slice_get, unwrap_or, codes, refl, sym, ap, subst, subst₂, ◌∙◌, arith, append_assoc, append-nil, if◌then◌else◌}
use Rattle.std.specs.Prelude.{decimal}
use Rattle.std.specs.List.{list_all, take_while}
use Rattle.std.proofs.lemmas.Bool.{and_parts, and_from, and_left, or_from, or_parts, or_cases, eqb-true, ne_eqb, leb-true, lt-leb, lt-ltb, ltb-true, false≢true, not-true, false_from_ne_true}
use Rattle.std.proofs.lemmas.List.Sums.{take_while-cons}
use Rattle.std.proofs.lemmas.Option.{slice_get-get_or}
use Rattle.line_fields.specs.meaning.Fields.{has_bytes, is_blank, is_digit, is_label_start, is_label_byte, is_label_word, trim_start}
use Rattle.line_fields.specs.meaning.Names.{Names, number_in}
use Rattle.conditions.specs.declared.condition.Cond.{Cond, fold-Cond}
use Rattle.conditions.specs.declared.condition.Cond.TheOpen.{Cond-F, True, False, Compare, Not, And, Or, Shape}
use Rattle.conditions.specs.declared.condition.Cond.TheFolds.{map-Cond}
use Rattle.conditions.specs.declared.condition.Factor.{Factor}
use Rattle.conditions.specs.declared.condition.Op.{Op}
use Rattle.conditions.specs.declared.condition.Op.TheVariants.{AtMost, Below, AtLeast, Above, Equal, Unequal}
use Rattle.conditions.specs.declared.condition.Term.{Term}
use Rattle.conditions.specs.declared.condition.Term.TheVariants.{Vertices, Edges, Joins, Kinds, Degree, Missing, Least}
use Rattle.conditions.specs.meaning.Written.{are_numbers_within, are_numbers_within_of, come_in_order, is_pair_of, is_pattern_within, is_sum_within, most_times, most_bound, most_pattern_vertices}
use Rattle.conditions.specs.declared.pattern.Pattern.{Pattern}
use Rattle.conditions.specs.declared.pattern.PatternEdge.{PatternEdge}
use Rattle.conditions.proofs.Forms.{of_form, by_form, fold-form}
use Rattle.condition_grammar.specs.meaning.Token.{Token, word, number, opening, closing, comma, semicolon, plus, times, op}
use Rattle.condition_grammar.specs.meaning.Lexing.{sign_at, token_at, tokens_of}
use Rattle.condition_grammar.specs.meaning.Text.{comma_text, edge_text, knows_edge, knows_label, knows_pattern, list_text, shape_text, Text, text_in_place, text_by, bound_text, cond_text, label_text, term_text, factor_text, more_text, sum_text, op_text, knows_labels, knows_labels_by, knows_term}
use Rattle.condition_grammar.proofs.Edges.{pair-less, pair-most}
use Rattle.condition_grammar.proofs.Splitting.{tokens_of-front}
use Rattle.line_fields.proofs.Decimals.{digits-decimal, has_bytes-decimal}
use Rattle.condition_grammar.proofs.Digits.{fits}

-- The tokens of each part as it is written, with others after them.

abbrev pub front_term : Names → Term → List Token → List Token
front_term names (Vertices None) ts = word (codes "vertices") ∷ ts
front_term names (Vertices (Some l)) ts = word (codes "vertices") ∷ opening ∷ word (label_text names l) ∷ closing ∷ ts
front_term names (Edges None) ts = word (codes "edges") ∷ ts
front_term names (Edges (Some l)) ts = word (codes "edges") ∷ opening ∷ word (label_text names l) ∷ closing ∷ ts
front_term names (Joins l m) ts = word (codes "joins") ∷ opening ∷ word (label_text names l) ∷ comma ∷ word (label_text names m) ∷ closing ∷ ts
front_term names Kinds ts = word (codes "kinds") ∷ ts
front_term names Degree ts = word (codes "degree") ∷ ts
front_term names Missing ts = word (codes "missing") ∷ ts
front_term names Least ts = word (codes "least") ∷ ts

abbrev pub front_times : Bool → ℕ → List Token → List Token
front_times true n ts = ts
front_times false n ts = number (decimal n) ∷ times ∷ ts

abbrev pub front_factor : Names → Factor → List Token → List Token
front_factor names f ts = front_times (eqb f.times 1) f.times (front_term names f.term ts)

abbrev pub front_more : Names → List Factor → List Token → List Token
front_more names [] ts = ts
front_more names (f ∷ sum) ts = plus ∷ front_factor names f (front_more names sum ts)

abbrev pub front_sum : Names → List Factor → List Token → List Token
front_sum names [] ts = ts
front_sum names (f ∷ sum) ts = front_factor names f (front_more names sum ts)

-- a list with a comma before each item, and with commas between the items
abbrev pub front_comma : {A : Type 0} → (A → List Token → List Token) → List A → List Token → List Token
front_comma front [] ts = ts
front_comma front (x ∷ xs) ts = comma ∷ front x (front_comma front xs ts)

abbrev pub front_list : {A : Type 0} → (A → List Token → List Token) → List A → List Token → List Token
front_list front [] ts = ts
front_list front (x ∷ xs) ts = front x (front_comma front xs ts)

abbrev pub front_label : Names → ℕ → List Token → List Token
front_label names l ts = word (label_text names l) ∷ ts

abbrev pub front_edge_label : Names → ℕ → Bool → List Token → List Token
front_edge_label names l true ts = ts
front_edge_label names l false ts = word (label_text names l) ∷ ts

abbrev pub front_edge : Names → PatternEdge → List Token → List Token
front_edge names e ts = number (decimal e.low) ∷ number (decimal e.high) ∷ front_edge_label names e.label (eqb e.label 0) ts

abbrev pub front_shape : Names → Pattern → List Token → List Token
front_shape names s ts = word (codes "shape") ∷ opening ∷ front_list (front_label names) s.labels (semicolon ∷ front_list (front_edge names) s.edges (closing ∷ ts))

-- a condition's tokens, and how tightly it binds
pub record Front : Type 0 where
  pub binding : ℕ
  pub front : List Token → List Token

abbrev pub front_round : Bool → Front → List Token → List Token
front_round true f ts = opening ∷ f.front (closing ∷ ts)
front_round false f ts = f.front ts

abbrev pub front_at : ℕ → Front → List Token → List Token
front_at asked f ts = front_round (nat_lt f.binding asked) f ts

abbrev pub front_by : Names → Cond-F Front → Front
front_by names True = record { binding = 2; front = λ ts. word (codes "true") ∷ ts }
front_by names False = record { binding = 2; front = λ ts. word (codes "false") ∷ ts }
front_by names (Compare sum o bound) = record { binding = 2; front = λ ts. front_sum names sum (op o ∷ number (decimal bound) ∷ ts) }
front_by names (Not c) = record { binding = 2; front = λ ts. word (codes "not") ∷ front_at 2 c ts }
front_by names (And c d) = record { binding = 1; front = λ ts. front_at 1 c (word (codes "and") ∷ front_at 2 d ts) }
front_by names (Shape s) = record { binding = 2; front = front_shape names s }
front_by names (Or c d) = record { binding = 0; front = λ ts. front_at 0 c (word (codes "or") ∷ front_at 1 d ts) }

abbrev pub front_cond : Names → Cond → Front
front_cond names c = fold-Cond Front (front_by names) c

-- ---- the tokens of a text with others after it

-- no byte that goes on with a word or a number comes first
abbrev pub stops : List ℕ → Bool
stops [] = true
stops (b ∷ bs) = not (is_label_byte b)

-- the text has these tokens, whatever stands after it; or where that goes on with no word and no number
abbrev pub LexesAlways : List ℕ → (List Token → List Token) → Type 0
LexesAlways text f = (rest : List ℕ) (ts : List Token) → tokens_of rest ≡ Some ts → tokens_of (text ++ rest) ≡ Some (f ts)

abbrev pub Lexes : List ℕ → (List Token → List Token) → Type 0
Lexes text f = (rest : List ℕ) (ts : List Token) → stops rest ≡ true → tokens_of rest ≡ Some ts → tokens_of (text ++ rest) ≡ Some (f ts)

-- the first byte is none that goes on
abbrev Starts : List ℕ → Type 0
Starts text = (rest : List ℕ) → stops (text ++ rest) ≡ true

module _ (a b : List ℕ) (f g : List Token → List Token) where
  always_then : LexesAlways a f → Lexes b g → Lexes (a ++ b) (λ ts. f (g ts))
  always_then first second rest ts stop e = ap tokens_of (append_assoc a b rest) ∙ first (b ++ rest) (g ts) (second rest ts stop e)

  always_always : LexesAlways a f → LexesAlways b g → LexesAlways (a ++ b) (λ ts. f (g ts))
  always_always first second rest ts e = ap tokens_of (append_assoc a b rest) ∙ first (b ++ rest) (g ts) (second rest ts e)

  stopping_always : Lexes a f → Starts b → LexesAlways b g → LexesAlways (a ++ b) (λ ts. f (g ts))
  stopping_always first starts second rest ts e = ap tokens_of (append_assoc a b rest) ∙ first (b ++ rest) (g ts) (starts rest) (second rest ts e)

  stopping_then : Lexes a f → Starts b → Lexes b g → Lexes (a ++ b) (λ ts. f (g ts))
  stopping_then first starts second rest ts stop e = ap tokens_of (append_assoc a b rest) ∙ first (b ++ rest) (g ts) (starts rest) (second rest ts stop e)

-- ---- bytes

start-not_blank : (b : ℕ) → is_label_start b ≡ true → is_blank b ≡ false
start-not_blank b start = false_from_ne_true (is_blank b) (λ blank. elim (or_cases (eqb b 32) (eqb b 9) blank) [
  | inl is ↦ false≢true (ap is_label_start (sym (eqb-true b 32 is)) ∙ start)
  | inr is ↦ false≢true (ap is_label_start (sym (eqb-true b 9 is)) ∙ start)
])

module _ (d : ℕ) (digit : is_digit d ≡ true) where
  low : 48 ≤ d
  low = leb-true 48 d (and_parts (leb 48 d) (leb d 57) digit).0

  high : d ≤ 57
  high = leb-true d 57 (and_parts (leb 48 d) (leb d 57) digit).1

  digit-not_blank : is_blank d ≡ false
  digit-not_blank = or_from _ _ (ne_eqb d 32 (λ e. omega (arith, e, low))) (ne_eqb d 9 (λ e. omega (arith, e, low)))

  digit-not_start : is_label_start d ≡ false
  digit-not_start =
      or_from _ _ (or_from _ _ (and_left _ _ (lt-leb 65 d (omega (arith, high)))) (and_left _ _ (lt-leb 97 d (omega (arith, high))))) (ne_eqb d 95 (λ e. omega (arith, e, high)))

module _ (p : ℕ → Bool) where
  -- none of these comes first
  abbrev ends : List ℕ → Bool
  ends [] = true
  ends (b ∷ bs) = not (p b)

  take_while-append : (xs rest : List ℕ) → list_all p xs ≡ true → ends rest ≡ true → take_while p (xs ++ rest) ≡ xs
  take_while-append [] [] all stop = refl
  take_while-append [] (b ∷ rest) all stop = take_while-cons p b rest ∙ ap (λ t. cond t (b ∷ take_while p rest) []) (not-true (p b) stop)
  take_while-append (x ∷ xs) rest all stop =
      let parts = and_parts (p x) (list_all p xs) all in
      take_while-cons p x (xs ++ rest) ∙ ap (λ t. cond t (x ∷ take_while p (xs ++ rest)) []) parts.0 ∙ ap (λ ys. x ∷ ys) (take_while-append xs rest parts.1 stop)

drop-append : (xs rest : List ℕ) → drop (length xs) (xs ++ rest) ≡ rest
drop-append [] rest = refl
drop-append (x ∷ xs) rest = drop-append xs rest

ends_digits : (rest : List ℕ) → stops rest ≡ true → ends is_digit rest ≡ true
ends_digits [] stop = refl
ends_digits (b ∷ rest) stop =
    let others = or_parts (is_label_start b || is_digit b) (eqb b 45) (not-true (is_label_byte b) stop) in
    ap not (or_parts (is_label_start b) (is_digit b) others.0).1

-- ---- words and numbers

-- a text whose first token is this one
from_front : (b : ℕ) (bs rest : List ℕ) (t : Token) (ts : List Token) → is_blank b ≡ false → token_at (b ∷ (bs ++ rest)) ≡ Some (t, length (b ∷ bs)) → tokens_of rest ≡ Some ts
    → tokens_of ((b ∷ bs) ++ rest) ≡ Some (t ∷ ts)
from_front b bs rest t ts other at e =
    let text : List ℕ = (b ∷ bs) ++ rest in
    let trimmed : trim_start text ≡ text = ap (λ x. cond x (trim_start (bs ++ rest)) text) other in
    tokens_of-front text t (length (b ∷ bs)) (ap token_at trimmed ∙ at) (omega arith)
    ∙ ap (λ x. option_map (λ us. t ∷ us) (tokens_of (drop (length (b ∷ bs)) x))) trimmed
    ∙ ap (λ x. option_map (λ us. t ∷ us) (tokens_of x)) (drop-append (b ∷ bs) rest)
    ∙ ap (option_map (λ us. t ∷ us)) e

module _ (b : ℕ) (bs : List ℕ) where
  lexes_bytes : is_label_start b ≡ true → list_all is_label_byte bs ≡ true → Lexes (b ∷ bs) (λ ts. word (b ∷ bs) ∷ ts)
  lexes_bytes start all rest ts stop e =
      let text : List ℕ = b ∷ (bs ++ rest) in
      let all_bytes : list_all is_label_byte (b ∷ bs) ≡ true = and_from (is_label_byte b) _ (ap (λ t. t || is_digit b || eqb b 45) start) all in
      let taken : take_while is_label_byte text ≡ b ∷ bs = take_while-append is_label_byte (b ∷ bs) rest all_bytes (by_rest rest stop) in
      let at : token_at text ≡ Some (word (b ∷ bs), length (b ∷ bs)) =
      ap (λ t. cond t (Some (word (take_while is_label_byte text), length (take_while is_label_byte text)))
      (if is_digit b then Some (number (take_while is_digit text), length (take_while is_digit text)) else sign_at text)) start
      ∙ ap (λ w. Some (word w, length w)) taken in
      from_front b bs rest (word (b ∷ bs)) ts (start-not_blank b start) at e
    where
      by_rest : (rest : List ℕ) → stops rest ≡ true → ends is_label_byte rest ≡ true
      by_rest [] stop = refl
      by_rest (c ∷ rest) stop = stop

  lexes_number : list_all is_digit (b ∷ bs) ≡ true → Lexes (b ∷ bs) (λ ts. number (b ∷ bs) ∷ ts)
  lexes_number all rest ts stop e =
      let text : List ℕ = b ∷ (bs ++ rest) in
      let digit : is_digit b ≡ true = (and_parts (is_digit b) (list_all is_digit bs) all).0 in
      let taken : take_while is_digit text ≡ b ∷ bs = take_while-append is_digit (b ∷ bs) rest all (ends_digits rest stop) in
      let at : token_at text ≡ Some (number (b ∷ bs), length (b ∷ bs)) =
      ap (λ t. cond t (Some (word (take_while is_label_byte text), length (take_while is_label_byte text)))
      (if is_digit b then Some (number (take_while is_digit text), length (take_while is_digit text)) else sign_at text)) (digit-not_start b digit)
      ∙ ap (λ t. cond t (Some (number (take_while is_digit text), length (take_while is_digit text))) (sign_at text)) digit
      ∙ ap (λ w. Some (number w, length w)) taken in
      from_front b bs rest (number (b ∷ bs)) ts (digit-not_blank b digit) at e

lexes_label : (w : List ℕ) → is_label_word w ≡ true → Lexes w (λ ts. word w ∷ ts)
lexes_label [] label = absurd (false≢true label)
lexes_label (b ∷ bs) label =
    let parts = and_parts (is_label_start b && list_all is_label_byte bs) (nat_le (length bs) 31) label in
    let both = and_parts (is_label_start b) (list_all is_label_byte bs) parts.0 in
    lexes_bytes b bs both.0 both.1

lexes_digits : (w : List ℕ) → has_bytes w ≡ true → list_all is_digit w ≡ true → Lexes w (λ ts. number w ∷ ts)
lexes_digits [] some all = absurd (false≢true some)
lexes_digits (b ∷ bs) some all = lexes_number b bs all

lexes_decimal : (n : ℕ) → n < 10 ^ 10 → Lexes (decimal n) (λ ts. number (decimal n) ∷ ts)
lexes_decimal n short = lexes_digits (decimal n) (has_bytes-decimal n (fits n short)) (digits-decimal n (fits n short))

-- ---- signs and blanks

lexes_blank : LexesAlways (codes " ") (λ ts. ts)
unfolding tokens_of
lexes_blank rest ts e = e

lexes_open : LexesAlways (codes "(") (λ ts. opening ∷ ts)
unfolding tokens_of
lexes_open rest ts e = ap (option_map (λ us. opening ∷ us)) e

lexes_close : LexesAlways (codes ")") (λ ts. closing ∷ ts)
unfolding tokens_of
lexes_close rest ts e = ap (option_map (λ us. closing ∷ us)) e

lexes_comma : LexesAlways (codes ",") (λ ts. comma ∷ ts)
unfolding tokens_of
lexes_comma rest ts e = ap (option_map (λ us. comma ∷ us)) e

lexes_semicolon : LexesAlways (codes ";") (λ ts. semicolon ∷ ts)
unfolding tokens_of
lexes_semicolon rest ts e = ap (option_map (λ us. semicolon ∷ us)) e

lexes_shape : LexesAlways (codes "shape(") (λ ts. word (codes "shape") ∷ opening ∷ ts)
unfolding tokens_of
lexes_shape rest ts e = ap (λ o. option_map (λ us. word (codes "shape") ∷ us) (option_map (λ us. opening ∷ us) o)) e

lexes_plus : LexesAlways (codes " + ") (λ ts. plus ∷ ts)
unfolding tokens_of
lexes_plus rest ts e = ap (option_map (λ us. plus ∷ us)) e

lexes_times : LexesAlways (codes "*") (λ ts. times ∷ ts)
unfolding tokens_of
lexes_times rest ts e = ap (option_map (λ us. times ∷ us)) e

lexes_op : (o : Op) → LexesAlways (op_text o ++ codes " ") (λ ts. op o ∷ ts)
unfolding tokens_of
lexes_op AtMost rest ts e = ap (option_map (λ us. op AtMost ∷ us)) e
lexes_op Below rest ts e = ap (option_map (λ us. op Below ∷ us)) e
lexes_op AtLeast rest ts e = ap (option_map (λ us. op AtLeast ∷ us)) e
lexes_op Above rest ts e = ap (option_map (λ us. op Above ∷ us)) e
lexes_op Equal rest ts e = ap (option_map (λ us. op Equal ∷ us)) e
lexes_op Unequal rest ts e = ap (option_map (λ us. op Unequal ∷ us)) e

-- ---- terms and sums

-- a parenthesis after a text
closed_lexes : (a : List ℕ) (f : List Token → List Token) → Lexes a f → Lexes (a ++ codes ")") (λ ts. f (closing ∷ ts))
closed_lexes a f first = stopping_then a (codes ")") f (λ ts. closing ∷ ts) first (λ rest. refl) (λ rest ts stop e. lexes_close rest ts e)

-- the name of a label that is known is in form
pub known_label : (names : Names) (l : ℕ) → list_all is_label_word names ≡ true → nat_lt l (length names) ≡ true → is_label_word (label_text names l) ≡ true
known_label [] l all known = absurd (omega (arith, ltb-true l 0 known))
known_label (w ∷ names) zero all known = (and_parts (is_label_word w) (list_all is_label_word names) all).0
known_label (w ∷ names) (suc l) all known = known_label names l (and_parts (is_label_word w) (list_all is_label_word names) all).1 (lt-ltb l (length names) (omega (arith, ltb-true (suc l) (length (w ∷ names)) known)))

-- a known label's name has its number
pub known_number : (names : Names) (l : ℕ) → ((i : ℕ) (name : List ℕ) → slice_get names i ≡ Some name → number_in names name ≡ Some i) → nat_lt l (length names) ≡ true
    → number_in names (label_text names l) ≡ Some l
known_number names l distinct known =
    let at = slice_get-get_or names l [] (ltb-true l (length names) known) in
    distinct l (label_text names l) (at ∙ ap Some (sym (ap (λ o. unwrap_or o []) at)))

-- the factors of a sum are small, and their labels are known
abbrev pub all_small : List Factor → Bool
all_small sum = list_all (λ (f : Factor). nat_le f.times most_times) sum

abbrev pub all_known : Names → List Factor → Bool
all_known names sum = list_all (λ (f : Factor). knows_term names f.term) sum

module _ (names : Names) (labels : list_all is_label_word names ≡ true) where
  name_lexes : (l : ℕ) → nat_lt l (length names) ≡ true → Lexes (label_text names l) (λ ts. word (label_text names l) ∷ ts)
  name_lexes l known = lexes_label (label_text names l) (known_label names l labels known)

  -- a term's name and a label in parentheses
  opened_lexes : (b : ℕ) (bs : List ℕ) (l : ℕ) → is_label_start b ≡ true → list_all is_label_byte bs ≡ true → nat_lt l (length names) ≡ true
      → Lexes ((b ∷ bs) ++ codes "(" ++ label_text names l) (λ ts. word (b ∷ bs) ∷ opening ∷ word (label_text names l) ∷ ts)
  opened_lexes b bs l start all known =
      always_then ((b ∷ bs) ++ codes "(") (label_text names l) (λ ts. word (b ∷ bs) ∷ opening ∷ ts) (λ ts. word (label_text names l) ∷ ts)
      (stopping_always (b ∷ bs) (codes "(") (λ ts. word (b ∷ bs) ∷ ts) (λ ts. opening ∷ ts) (lexes_bytes b bs start all) (λ rest. refl) lexes_open)
      (name_lexes l known)

  labelled_lexes : (b : ℕ) (bs : List ℕ) (l : ℕ) → is_label_start b ≡ true → list_all is_label_byte bs ≡ true → nat_lt l (length names) ≡ true
      → Lexes ((b ∷ bs) ++ codes "(" ++ label_text names l ++ codes ")") (λ ts. word (b ∷ bs) ∷ opening ∷ word (label_text names l) ∷ closing ∷ ts)
  labelled_lexes b bs l start all known =
      closed_lexes ((b ∷ bs) ++ codes "(" ++ label_text names l) (λ ts. word (b ∷ bs) ∷ opening ∷ word (label_text names l) ∷ ts) (opened_lexes b bs l start all known)

  two_lexes : (l m : ℕ) → nat_lt l (length names) ≡ true → nat_lt m (length names) ≡ true → Lexes (term_text names (Joins l m)) (front_term names (Joins l m))
  two_lexes l m known known_too =
      let one = label_text names l in
      let two = label_text names m in
      closed_lexes (codes "joins(" ++ one ++ codes "," ++ two) (λ ts. word (codes "joins") ∷ opening ∷ word one ∷ comma ∷ word two ∷ ts)
      (always_then (codes "joins(" ++ one ++ codes ",") two (λ ts. word (codes "joins") ∷ opening ∷ word one ∷ comma ∷ ts) (λ ts. word two ∷ ts)
      (stopping_always (codes "joins(" ++ one) (codes ",") (λ ts. word (codes "joins") ∷ opening ∷ word one ∷ ts) (λ ts. comma ∷ ts)
      (opened_lexes 106 (codes "oins") l refl refl known) (λ rest. refl) lexes_comma)
      (name_lexes m known_too))

  term_lexes : (t : Term) → knows_term names t ≡ true → Lexes (term_text names t) (front_term names t)
  term_lexes (Vertices None) known = lexes_bytes 118 (codes "ertices") refl refl
  term_lexes (Vertices (Some l)) known = labelled_lexes 118 (codes "ertices") l refl refl known
  term_lexes (Edges None) known = lexes_bytes 101 (codes "dges") refl refl
  term_lexes (Edges (Some l)) known = labelled_lexes 101 (codes "dges") l refl refl known
  term_lexes (Joins l m) known = let both = and_parts (nat_lt l (length names)) (nat_lt m (length names)) known in two_lexes l m both.0 both.1
  term_lexes Kinds known = lexes_bytes 107 (codes "inds") refl refl
  term_lexes Degree known = lexes_bytes 100 (codes "egree") refl refl
  term_lexes Missing known = lexes_bytes 109 (codes "issing") refl refl
  term_lexes Least known = lexes_bytes 108 (codes "east") refl refl

  factor_lexes : (f : Factor) → nat_le f.times most_times ≡ true → knows_term names f.term ≡ true → Lexes (factor_text names f) (front_factor names f)
  factor_lexes f few known =
      let term = term_lexes f.term known in
      let short : f.times < 10 ^ 10 = lt_of (leb-true f.times most_times few) in
      elim (eqb f.times 1) as (λ one. Lexes ((if one then [] else decimal f.times ++ codes "*") ++ term_text names f.term) (λ ts. front_times one f.times (front_term names f.term ts))) [
        | true ↦ term
        | false ↦ always_then (decimal f.times ++ codes "*") (term_text names f.term) (λ ts. number (decimal f.times) ∷ times ∷ ts) (front_term names f.term)
            (stopping_always (decimal f.times) (codes "*") (λ ts. number (decimal f.times) ∷ ts) (λ ts. times ∷ ts) (lexes_decimal f.times short) (λ rest. refl) lexes_times)
            term
      ]
    where
      lt_of : {n : ℕ} → n ≤ 100 → n < 10 ^ 10
      lt_of le = omega (arith, le)

  -- the factors after others
  later_lexes : (a : List ℕ) (f : List Token → List Token) (sum : List Factor) → Lexes a f → Lexes (more_text names sum) (front_more names sum)
      → Lexes (a ++ more_text names sum) (λ ts. f (front_more names sum ts))
  later_lexes a f [] first later = λ rest ts stop e. ap tokens_of (append_assoc a [] rest) ∙ first rest ts stop e
  later_lexes a f (g ∷ sum) first later = stopping_then a (more_text names (g ∷ sum)) f (front_more names (g ∷ sum)) first (λ rest. refl) later

  more_lexes : (sum : List Factor) → all_small sum ≡ true → all_known names sum ≡ true → Lexes (more_text names sum) (front_more names sum)
  more_lexes [] small known = λ rest ts stop e. e
  more_lexes (f ∷ sum) small known =
      let times = and_parts (nat_le f.times most_times) (all_small sum) small in
      let labels = and_parts (knows_term names f.term) (all_known names sum) known in
      later_lexes (codes " + " ++ factor_text names f) (λ ts. plus ∷ front_factor names f ts) sum
      (always_then (codes " + ") (factor_text names f) (λ ts. plus ∷ ts) (front_factor names f) lexes_plus (factor_lexes f times.0 labels.0))
      (more_lexes sum times.1 labels.1)

  sum_lexes : (sum : List Factor) → all_small sum ≡ true → all_known names sum ≡ true → Lexes (sum_text names sum) (front_sum names sum)
  sum_lexes [] small known = λ rest ts stop e. e
  sum_lexes (f ∷ sum) small known =
      let times = and_parts (nat_le f.times most_times) (all_small sum) small in
      let labels = and_parts (knows_term names f.term) (all_known names sum) known in
      later_lexes (factor_text names f) (front_factor names f) sum (factor_lexes f times.0 labels.0) (more_lexes sum times.1 labels.1)

  comparison_lexes : (sum : List Factor) (o : Op) (bound : ℕ) → all_small sum ≡ true → all_known names sum ≡ true → bound < 10 ^ 10
      → Lexes (sum_text names sum ++ codes " " ++ op_text o ++ codes " " ++ decimal bound) (λ ts. front_sum names sum (op o ∷ number (decimal bound) ∷ ts))
  comparison_lexes sum o bound small known short =
      let text = sum_text names sum ++ codes " " in
      let front = front_sum names sum in
      let spaced : LexesAlways text front = stopping_always (sum_text names sum) (codes " ") front (λ ts. ts) (sum_lexes sum small known) (λ rest. refl) lexes_blank in
      let compared : LexesAlways (text ++ op_text o ++ codes " ") (λ ts. front (op o ∷ ts)) =
      subst (λ x. LexesAlways x (λ ts. front (op o ∷ ts))) (sym (append_assoc text (op_text o) (codes " "))) (always_always text (op_text o ++ codes " ") front (λ ts. op o ∷ ts) spaced (lexes_op o)) in
      always_then (text ++ op_text o ++ codes " ") (decimal bound) (λ ts. front (op o ∷ ts)) (λ ts. number (decimal bound) ∷ ts) compared (lexes_decimal bound short)

-- ---- shapes

module _ {A : Type 0} (text : A → List ℕ) (front : A → List Token → List Token) (ok : A → Bool) (each : (x : A) → ok x ≡ true → Lexes (text x) (front x)) where
  before_comma : (a : List ℕ) (f : List Token → List Token) (xs : List A) → Lexes a f → Lexes (comma_text text xs) (front_comma front xs) → Lexes (a ++ comma_text text xs) (λ ts. f (front_comma front xs ts))
  before_comma a f [] first later = λ rest ts stop e. ap tokens_of (append_assoc a [] rest) ∙ first rest ts stop e
  before_comma a f (x ∷ xs) first later = stopping_then a (comma_text text (x ∷ xs)) f (front_comma front (x ∷ xs)) first (λ rest. refl) later

  comma_lexes : (xs : List A) → list_all ok xs ≡ true → Lexes (comma_text text xs) (front_comma front xs)
  comma_lexes [] all = λ rest ts stop e. e
  comma_lexes (x ∷ xs) all =
      let both = and_parts (ok x) (list_all ok xs) all in
      always_then (codes ",") (text x ++ comma_text text xs) (λ ts. comma ∷ ts) (λ ts. front x (front_comma front xs ts)) lexes_comma (before_comma (text x) (front x) xs (each x both.0) (comma_lexes xs both.1))

  list_lexes : (xs : List A) → list_all ok xs ≡ true → Lexes (list_text text xs) (front_list front xs)
  list_lexes [] all = λ rest ts stop e. e
  list_lexes (x ∷ xs) all =
      let both = and_parts (ok x) (list_all ok xs) all in
      before_comma (text x) (front x) xs (each x both.0) (comma_lexes xs both.1)

pub all_both : {A : Type 0} (p q : A → Bool) (xs : List A) → list_all p xs ≡ true → list_all q xs ≡ true → list_all (λ x. p x && q x) xs ≡ true
all_both p q [] one other = refl
all_both p q (x ∷ xs) one other =
    let ps = and_parts (p x) (list_all p xs) one in
    let qs = and_parts (q x) (list_all q xs) other in
    and_from (p x && q x) _ (and_from (p x) _ ps.0 qs.0) (all_both p q xs ps.1 qs.1)

-- the parts of what a pattern is within
pub record PatternWithin (s : Pattern) : Type 0 where
  pub some : 1 ≤ length s.labels
  pub few : length s.labels ≤ most_pattern_vertices
  pub pairs : list_all (is_pair_of (length s.labels)) s.edges ≡ true
  pub order : come_in_order 0 0 s.edges ≡ true

pub pattern_within : (s : Pattern) → is_pattern_within s ≡ true → PatternWithin s
pattern_within s h =
    let n = length s.labels in
    let all = and_parts (nat_le 1 n && nat_le n most_pattern_vertices && list_all (is_pair_of n) s.edges) (come_in_order 0 0 s.edges) h in
    let pairs = and_parts (nat_le 1 n && nat_le n most_pattern_vertices) (list_all (is_pair_of n) s.edges) all.0 in
    let labels = and_parts (nat_le 1 n) (nat_le n most_pattern_vertices) pairs.0 in
    record { some = leb-true 1 n labels.0; few = leb-true n most_pattern_vertices labels.1; pairs = pairs.1; order = all.1 }

module _ (names : Names) (labels : list_all is_label_word names ≡ true) where
  -- a label after a blank, where it isn't left out
  edge_label_lexes : (a : List ℕ) (f : List Token → List Token) (l : ℕ) (out : Bool) → Lexes a f → (out || knows_label names l) ≡ true → Lexes (a ++ (if out then [] else codes " " ++ label_text names l)) (λ ts. f (front_edge_label names l out ts))
  edge_label_lexes a f l true first known = λ rest ts stop e. ap tokens_of (append_assoc a [] rest) ∙ first rest ts stop e
  edge_label_lexes a f l false first known =
      stopping_then a (codes " " ++ label_text names l) f (λ ts. word (label_text names l) ∷ ts) first (λ rest. refl)
      (always_then (codes " ") (label_text names l) (λ ts. ts) (λ ts. word (label_text names l) ∷ ts) lexes_blank (name_lexes names labels l known))

  edge_lexes : (e : PatternEdge) → e.low < 10 ^ 10 → e.high < 10 ^ 10 → knows_edge names e ≡ true → Lexes (edge_text names e) (front_edge names e)
  edge_lexes e small large known =
      edge_label_lexes (decimal e.low ++ codes " " ++ decimal e.high) (λ ts. number (decimal e.low) ∷ number (decimal e.high) ∷ ts) e.label (eqb e.label 0)
      (always_then (decimal e.low ++ codes " ") (decimal e.high) (λ ts. number (decimal e.low) ∷ ts) (λ ts. number (decimal e.high) ∷ ts)
      (stopping_always (decimal e.low) (codes " ") (λ ts. number (decimal e.low) ∷ ts) (λ ts. ts) (lexes_decimal e.low small) (λ rest. refl) lexes_blank) (lexes_decimal e.high large)) known

  shape_lexes : (s : Pattern) → is_pattern_within s ≡ true → knows_pattern names s ≡ true → Lexes (shape_text names s) (front_shape names s)
  shape_lexes s within known =
      let parts = pattern_within s within in
      let known_parts = and_parts (list_all (knows_label names) s.labels) (list_all (knows_edge names) s.edges) known in
      let n = length s.labels in
      let front_labels = front_list (front_label names) s.labels in
      let front_edges = front_list (front_edge names) s.edges in
      let label_list = list_text (label_text names) s.labels in
      let edge_list = list_text (edge_text names) s.edges in
      let edges = list_lexes (edge_text names) (front_edge names) (λ e. is_pair_of n e && knows_edge names e) (one_edge n parts.few) s.edges (all_both (is_pair_of n) (knows_edge names) s.edges parts.pairs known_parts.1) in
      let word_first : List Token → List Token = λ ts. word (codes "shape") ∷ opening ∷ ts in
      let all_labels = list_lexes (label_text names) (front_label names) (knows_label names) (name_lexes names labels) s.labels known_parts.0 in
      closed_lexes (codes "shape(" ++ label_list ++ codes ";" ++ edge_list) (λ ts. word_first (front_labels (semicolon ∷ front_edges ts)))
      (always_then (codes "shape(" ++ label_list ++ codes ";") edge_list (λ ts. word_first (front_labels (semicolon ∷ ts))) front_edges
      (stopping_always (codes "shape(" ++ label_list) (codes ";") (λ ts. word_first (front_labels ts)) (λ ts. semicolon ∷ ts)
      (always_then (codes "shape(") label_list word_first front_labels lexes_shape all_labels) (λ rest. refl) lexes_semicolon)
      edges)
    where
      one_edge : (n : ℕ) → n ≤ most_pattern_vertices → (e : PatternEdge) → (is_pair_of n e && knows_edge names e) ≡ true → Lexes (edge_text names e) (front_edge names e)
      one_edge n few e h =
          let both = and_parts (is_pair_of n e) (knows_edge names e) h in
          let less = pair-less n e both.0 in
          let most = pair-most n e both.0 in
          edge_lexes e (omega (arith, less, most, few)) (omega (arith, most, few)) both.1

-- ---- conditions

-- a text and tokens that belong to each other
pub record HasTokens (t : Text) (f : Front) : Type 0 where
  pub same : f.binding ≡ t.binding
  pub lexes : Lexes t.text f.front

at_lexes : (asked : ℕ) (t : Text) (f : Front) → HasTokens t f → Lexes (text_in_place asked t) (front_at asked f)
at_lexes asked t f has =
    subst (λ n. Lexes (text_in_place asked t) (front_round (nat_lt n asked) f)) (sym has.same)
    (elim (nat_lt t.binding asked) as (λ low. Lexes (if low then codes "(" ++ t.text ++ codes ")" else t.text) (front_round low f)) [
      | true ↦ closed_lexes (codes "(" ++ t.text) (λ ts. opening ∷ f.front ts) (always_then (codes "(") t.text (λ ts. opening ∷ ts) f.front lexes_open has.lexes)
      | false ↦ has.lexes
    ])

-- a word with blanks round it, between two parts
joined_lexes : (word_text : List ℕ) (w : Token) (one two : List ℕ) (f g : List Token → List Token) → Starts word_text → LexesAlways word_text (λ ts. w ∷ ts) → Lexes one f → Lexes two g
    → Lexes (one ++ word_text ++ two) (λ ts. f (w ∷ g ts))
joined_lexes word_text w one two f g starts between first second =
    always_then (one ++ word_text) two (λ ts. f (w ∷ ts)) g (stopping_always one word_text f (λ ts. w ∷ ts) first starts between) second

lexes_and : LexesAlways (codes " and ") (λ ts. word (codes "and") ∷ ts)
unfolding tokens_of
lexes_and rest ts e = ap (option_map (λ us. word (codes "and") ∷ us)) e

lexes_or : LexesAlways (codes " or ") (λ ts. word (codes "or") ∷ ts)
unfolding tokens_of
lexes_or rest ts e = ap (option_map (λ us. word (codes "or") ∷ us)) e

no_tokens : tokens_of [] ≡ Some []
unfolding tokens_of
no_tokens = refl

lexes_not : LexesAlways (codes "not ") (λ ts. word (codes "not") ∷ ts)
unfolding tokens_of
lexes_not rest ts e = ap (option_map (λ us. word (codes "not") ∷ us)) e

-- what is asked of a condition, form by form
module _ (x : Cond-F Cond) where
  pub knows-form : (names : Names) → knows_labels names (of_form x) ≡ knows_labels_by names (map-Cond Cond Bool (knows_labels names) x)
  knows-form names = fold-form Bool (knows_labels_by names) x

  pub numbers-form : are_numbers_within (of_form x) ≡ are_numbers_within_of (map-Cond Cond Bool are_numbers_within x)
  numbers-form = fold-form Bool are_numbers_within_of x

module _ (names : Names) (labels : list_all is_label_word names ≡ true) where
  abbrev IsLexed : Cond → Type 0
  IsLexed c = IsTrue (are_numbers_within c) → IsTrue (knows_labels names c) → HasTokens (bound_text names c) (front_cond names c)

  form_has : (x : Cond-F Cond) → HasTokens (text_by names (map-Cond Cond Text (bound_text names) x)) (front_by names (map-Cond Cond Front (front_cond names) x)) → HasTokens (bound_text names (of_form x)) (front_cond names (of_form x))
  form_has x has = subst₂ HasTokens (sym (fold-form Text (text_by names) x)) (sym (fold-form Front (front_by names) x)) has

  pub tokens-written : (c : Cond) → IsLexed c
  tokens-written = by_form IsLexed
      (λ numbers known. form_has True (record { same = refl; lexes = lexes_bytes 116 (codes "rue") refl refl }))
      (λ numbers known. form_has False (record { same = refl; lexes = lexes_bytes 102 (codes "alse") refl refl }))
      (λ sum o bound numbers known.
      let x : Cond-F Cond = Compare sum o bound in
      let parts = and_parts (is_sum_within sum) (nat_le bound most_bound) (sym (numbers-form x) ∙ numbers) in
      let times = and_parts _ (list_all (λ (f : Factor). nat_le f.times most_times) sum) parts.0 in
      let few = leb-true bound most_bound parts.1 in
      form_has x (record { same = refl; lexes = comparison_lexes names labels sum o bound times.1 (sym (knows-form x names) ∙ known) (omega (arith, few)) }))
      (λ c has numbers known.
      let x : Cond-F Cond = Not c in
      let one = has (sym (numbers-form x) ∙ numbers) (sym (knows-form x names) ∙ known) in
      form_has x (record {
        same = refl;
        lexes = always_then (codes "not ") (text_in_place 2 (bound_text names c)) (λ ts. word (codes "not") ∷ ts) (front_at 2 (front_cond names c)) lexes_not (at_lexes 2 _ _ one);
      }))
      (λ c d has has_too numbers known.
      let x : Cond-F Cond = And c d in
      let both = and_parts (are_numbers_within c) (are_numbers_within d) (sym (numbers-form x) ∙ numbers) in
      let labels = and_parts (knows_labels names c) (knows_labels names d) (sym (knows-form x names) ∙ known) in
      let one = has both.0 labels.0 in
      let two = has_too both.1 labels.1 in
      form_has x (record {
        same = refl;
        lexes = joined_lexes (codes " and ") (word (codes "and")) (text_in_place 1 (bound_text names c)) (text_in_place 2 (bound_text names d)) (front_at 1 (front_cond names c)) (front_at 2 (front_cond names d))
            (λ rest. refl) lexes_and (at_lexes 1 _ _ one) (at_lexes 2 _ _ two);
      }))
      (λ c d has has_too numbers known.
      let x : Cond-F Cond = Or c d in
      let both = and_parts (are_numbers_within c) (are_numbers_within d) (sym (numbers-form x) ∙ numbers) in
      let labels = and_parts (knows_labels names c) (knows_labels names d) (sym (knows-form x names) ∙ known) in
      let one = has both.0 labels.0 in
      let two = has_too both.1 labels.1 in
      form_has x (record {
        same = refl;
        lexes = joined_lexes (codes " or ") (word (codes "or")) (text_in_place 0 (bound_text names c)) (text_in_place 1 (bound_text names d)) (front_at 0 (front_cond names c)) (front_at 1 (front_cond names d))
            (λ rest. refl) lexes_or (at_lexes 0 _ _ one) (at_lexes 1 _ _ two);
      }))
      (λ s numbers known.
      let x : Cond-F Cond = Shape s in
      form_has x (record { same = refl; lexes = shape_lexes names labels s (sym (numbers-form x) ∙ numbers) (sym (knows-form x names) ∙ known) }))

  -- the tokens of a condition as it is written
  pub tokens_of-written : (c : Cond) → IsTrue (are_numbers_within c) → IsTrue (knows_labels names c) → tokens_of (cond_text names c) ≡ Some ((front_cond names c).front [])
  tokens_of-written c numbers known =
      ap tokens_of (sym (append-nil (cond_text names c))) ∙ (tokens-written c numbers known).lexes [] [] refl no_tokens
