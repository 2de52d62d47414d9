-- The tokens of a condition.
use Rattle.std.specs.Prelude.{◌≡◌, ℕ, Bool, true, false, cond, eqb, List, [], ◌∷◌, Option, None, Some, refl}
use Rattle.std.specs.Coded.{Coded, code_by, coded×, coded_ℕ, coded_list}
use Rattle.std.specs.Str.{bytes_eq}
use Rattle.conditions.specs.declared.condition.Op.{Op}
use Rattle.conditions.specs.declared.condition.Op.TheVariants.{AtMost, Below, AtLeast, Above, Equal, Unequal}

pub data Token : Type 0 where
  -- with its bytes
  word : List ℕ → Token
  -- with its digits
  number : List ℕ → Token
  -- `(` and `)`
  opening : Token
  closing : Token
  comma : Token
  semicolon : Token
  plus : Token
  times : Token
  op : Op → Token

abbrev pub op_number : Op → ℕ
op_number AtMost = 0
op_number Below = 1
op_number AtLeast = 2
op_number Above = 3
op_number Equal = 4
op_number Unequal = 5

-- the two tokens are the same
abbrev pub is_same_token : Token → Token → Bool
is_same_token (word w) (word v) = bytes_eq w v
is_same_token (number d) (number e) = bytes_eq d e
is_same_token opening opening = true
is_same_token closing closing = true
is_same_token comma comma = true
is_same_token semicolon semicolon = true
is_same_token plus plus = true
is_same_token times times = true
is_same_token (op o) (op p) = eqb (op_number o) (op_number p)
is_same_token t u = false

-- what a word, a number and a comparing sign have
abbrev pub bytes_in : Token → Option (List ℕ)
bytes_in (word w) = Some w
bytes_in t = None

abbrev pub digits_in : Token → Option (List ℕ)
digits_in (number d) = Some d
digits_in t = None

abbrev pub op_in : Token → Option Op
op_in (op o) = Some o
op_in t = None

-- ---- how the logic stores a token

abbrev op_from_number : ℕ → Op
op_from_number n = cond (eqb n 0) AtMost (cond (eqb n 1) Below (cond (eqb n 2) AtLeast (cond (eqb n 3) Above (cond (eqb n 4) Equal Unequal))))

op_from_number-op_number : (o : Op) → op_from_number (op_number o) ≡ o
op_from_number-op_number AtMost = refl
op_from_number-op_number Below = refl
op_from_number-op_number AtLeast = refl
op_from_number-op_number Above = refl
op_from_number-op_number Equal = refl
op_from_number-op_number Unequal = refl

abbrev pub token_to_pair : Token → ℕ × List ℕ
token_to_pair (word w) = (0, w)
token_to_pair (number d) = (1, d)
token_to_pair opening = (2, [])
token_to_pair closing = (3, [])
token_to_pair comma = (4, [])
token_to_pair plus = (5, [])
token_to_pair times = (6, [])
token_to_pair (op o) = (7, op_number o ∷ [])
token_to_pair semicolon = (8, [])

abbrev op_from_list : List ℕ → Op
op_from_list [] = AtMost
op_from_list (n ∷ ns) = op_from_number n

abbrev pub token_from_pair : ℕ × List ℕ → Token
token_from_pair p =
    cond (eqb p.0 0) (word p.1) (cond (eqb p.0 1) (number p.1) (cond (eqb p.0 2) opening (cond (eqb p.0 3) closing (cond (eqb p.0 4) comma
    (cond (eqb p.0 5) plus (cond (eqb p.0 6) times (cond (eqb p.0 7) (op (op_from_list p.1)) semicolon)))))))

pub token_from_pair-token_to_pair : (t : Token) → token_from_pair (token_to_pair t) ≡ t
token_from_pair-token_to_pair (word w) = refl
token_from_pair-token_to_pair (number d) = refl
token_from_pair-token_to_pair opening = refl
token_from_pair-token_to_pair closing = refl
token_from_pair-token_to_pair comma = refl
token_from_pair-token_to_pair semicolon = refl
token_from_pair-token_to_pair plus = refl
token_from_pair-token_to_pair times = refl
token_from_pair-token_to_pair (op AtMost) = refl
token_from_pair-token_to_pair (op Below) = refl
token_from_pair-token_to_pair (op AtLeast) = refl
token_from_pair-token_to_pair (op Above) = refl
token_from_pair-token_to_pair (op Equal) = refl
token_from_pair-token_to_pair (op Unequal) = refl

abbrev pub tokens_code : Coded (List Token)
tokens_code = coded_list (code_by (ℕ × List ℕ) (coded× coded_ℕ (coded_list coded_ℕ)) token_to_pair token_from_pair token_from_pair-token_to_pair)
