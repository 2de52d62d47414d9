-- The tokens of a text: at each place the longest one.
use Rattle.std.specs.Prelude.{ℕ, zero, suc, ◌-◌, nat_eq, codes, List, [], ◌∷◌, length, Option, None, Some, unwrap_or, if◌then◌else◌, take_while}
use Rattle.std.specs.List.{starts_with}
use Rattle.std.specs.Option.{option_map, option_and_then}
use Rattle.line_fields.specs.meaning.Fields.{is_blank, is_digit, is_label_start, is_label_byte}
use Rattle.conditions.specs.declared.condition.Op.TheVariants.{AtMost, Below, AtLeast, Above, Equal, Unequal}
use Rattle.condition_grammar.specs.meaning.Token.{Token, word, number, opening, closing, comma, semicolon, plus, times, op}

-- the sign at the start of a text, and how many bytes it has
abbrev pub sign_at : List ℕ → Option (Token × ℕ)
sign_at text =
    if starts_with nat_eq text (codes "(") then Some (opening, 1)
    else if starts_with nat_eq text (codes ")") then Some (closing, 1)
    else if starts_with nat_eq text (codes ",") then Some (comma, 1)
    else if starts_with nat_eq text (codes ";") then Some (semicolon, 1)
    else if starts_with nat_eq text (codes "+") then Some (plus, 1)
    else if starts_with nat_eq text (codes "*") then Some (times, 1)
    else if starts_with nat_eq text (codes "<=") then Some (op AtMost, 2)
    else if starts_with nat_eq text (codes "<") then Some (op Below, 1)
    else if starts_with nat_eq text (codes ">=") then Some (op AtLeast, 2)
    else if starts_with nat_eq text (codes ">") then Some (op Above, 1)
    else if starts_with nat_eq text (codes "=") then Some (op Equal, 1)
    else if starts_with nat_eq text (codes "!=") then Some (op Unequal, 2)
    else None

-- The token at the start of a text, and how many bytes it has. A word is a letter or `_` and then letters,
-- digits, `_` and `-`, a number is digits, and both go on as long as they can.
abbrev pub token_at : List ℕ → Option (Token × ℕ)
token_at [] = None
token_at (b ∷ bs) =
    if is_label_start b then Some (word (take_while is_label_byte (b ∷ bs)), length (take_while is_label_byte (b ∷ bs)))
    else if is_digit b then Some (number (take_while is_digit (b ∷ bs)), length (take_while is_digit (b ∷ bs)))
    else sign_at (b ∷ bs)

-- The tokens of a text of which the first `inside` bytes belong to a token that was told. None where a byte
-- that isn't blank begins no token.
abbrev pub tokens_from : ℕ → List ℕ → Option (List Token)
tokens_from inside [] = Some []
tokens_from (suc inside) (b ∷ bs) = tokens_from inside bs
tokens_from zero (b ∷ bs) =
    if is_blank b then tokens_from zero bs
    else option_and_then (λ t. option_map (λ ts. t.0 ∷ ts) (tokens_from (t.1 - 1) bs)) (token_at (b ∷ bs))

-- the tokens of a text; none where a byte that isn't blank begins no token
unfoldable pub tokens_of : List ℕ → Option (List Token)
tokens_of text = tokens_from 0 text

abbrev pub tokens_in : List ℕ → List Token
tokens_in text = unwrap_or (tokens_of text) []
