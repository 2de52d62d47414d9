-- The grammar of conditions, over tokens. A production gives what was read, the tokens after it and the
-- names then; or why not, by the first token that offends.
use Rattle.std.specs.Prelude.{ℕ, zero, suc, ◌-◌, Bool, false, not, ◌&&◌, codes, eqb, min, max, nat_lt, nat_le, List, [], ◌∷◌, ◌++◌, length, Option, None, Some, is_some, Result, Ok, Err, if◌then◌else◌}
use Rattle.std.specs.List.{list_any}
use Rattle.std.specs.Option.{option_map}
use Rattle.std.specs.Str.{bytes_eq}
use Rattle.line_fields.specs.meaning.Fields.{is_label_word, number_of}
use Rattle.line_fields.specs.meaning.Names.{Names, number_in}
use Rattle.conditions.specs.declared.condition.Cond.{Cond}
use Rattle.conditions.specs.declared.condition.Cond.TheOpen as form
use Rattle.conditions.specs.declared.condition.Cond.TheViews.{roll-Cond}
use Rattle.conditions.specs.declared.condition.Factor.{Factor}
use Rattle.conditions.specs.declared.condition.Op.{Op}
use Rattle.conditions.specs.declared.condition.Term.{Term}
use Rattle.conditions.specs.declared.condition.Term.TheVariants as term
use Rattle.conditions.specs.meaning.Written.{comes_after, most_times, most_bound, most_factors, most_pattern_vertices, most_depth, most_tokens}
use Rattle.conditions.specs.declared.pattern.Pattern.{Pattern}
use Rattle.conditions.specs.declared.pattern.PatternEdge.{PatternEdge}
use Rattle.conditions.specs.meaning.Fits.{has_numbers}
use Rattle.condition_grammar.specs.declared.fault.ConditionKind.{ConditionKind}
use Rattle.condition_grammar.specs.declared.fault.ConditionKind.TheVariants.{BadForm, TooLong, TooDeep}
use Rattle.condition_grammar.specs.declared.joint.Joint.{Joint}
use Rattle.condition_grammar.specs.declared.joint.Joint.TheVariants.{And, Or}
use Rattle.condition_grammar.specs.declared.term_name.TermName.{TermName}
use Rattle.condition_grammar.specs.declared.term_name.TermName.TheVariants as name
use Rattle.condition_grammar.specs.meaning.Token.{Token, is_same_token, bytes_in, digits_in, op_in, word, opening, closing, comma, semicolon, plus, times}
use Rattle.condition_grammar.specs.meaning.Lexing.{tokens_of}

-- what was read, the tokens after it, and the names then
abbrev pub ReadResult : Type 0 → Type 0
ReadResult A = Result (A × List Token × Names) ConditionKind

abbrev pub Production : Type 0 → Type 0
Production A = List Token → Names → ReadResult A

infixl 10 ◌>>=◌
abbrev pub ◌>>=◌ : {A B E : Type 0} → Result A E → (A → Result B E) → Result B E
(Ok x) >>= f = f x
(Err e) >>= f = Err e

-- the tokens after this one, where it comes first
abbrev pub tokens_after : Token → List Token → Option (List Token)
tokens_after t [] = None
tokens_after t (u ∷ ts) = if is_same_token u t then Some ts else None

-- the same, where it has to come first
abbrev pub or_bad_form : {A : Type 0} → Option A → Result A ConditionKind
or_bad_form (Some x) = Ok x
or_bad_form None = Err BadForm

abbrev pub tokens_past : Token → List Token → Result (List Token) ConditionKind
tokens_past t ts = or_bad_form (tokens_after t ts)

-- the number of a label, and the names then: a new label takes the next number
abbrev pub label_number_by : Names → List ℕ → Option ℕ → ℕ × Names
label_number_by names label (Some n) = (n, names)
label_number_by names label None = (length names, names ++ label ∷ [])

abbrev pub label_number : Names → List ℕ → ℕ × Names
label_number names label = label_number_by names label (number_in names label)

-- the word, the number or the comparing sign that comes first, and the tokens after it
abbrev pub first_of : {A : Type 0} → (Token → Option A) → List Token → Option (A × List Token)
first_of kind [] = None
first_of kind (t ∷ ts) = option_map (λ x. (x, ts)) (kind t)

-- label: a word of 1 to 32 bytes, also one that means something elsewhere
unfoldable pub label : Production ℕ
label ts names = do
  w ← or_bad_form (first_of bytes_in ts)
  if is_label_word w.0 then Ok ((label_number names w.0).0, w.1, (label_number names w.0).1) else Err BadForm

-- bound, factor: a number of 1 to 10 digits, no larger than the most
abbrev pub at_most : ℕ → Option ℕ → Option ℕ
at_most most (Some n) = if nat_le n most then Some n else None
at_most most None = None

abbrev pub value_up_to : ℕ → List ℕ → Result ℕ ConditionKind
value_up_to most digits = or_bad_form (at_most most (number_of 10 digits))

unfoldable pub bound : List Token → Result (ℕ × List Token) ConditionKind
bound ts = do
  d ← or_bad_form (first_of digits_in ts)
  n ← value_up_to most_bound d.0
  Ok (n, d.1)

-- op
unfoldable pub operator : List Token → Result (Op × List Token) ConditionKind
operator ts = or_bad_form (first_of op_in ts)

-- the name of a term
abbrev pub term_name : List ℕ → Option TermName
term_name w =
    if bytes_eq w (codes "vertices") then Some name.Vertices
    else if bytes_eq w (codes "edges") then Some name.Edges
    else if bytes_eq w (codes "joins") then Some name.Joins
    else if bytes_eq w (codes "kinds") then Some name.Kinds
    else if bytes_eq w (codes "degree") then Some name.Degree
    else if bytes_eq w (codes "missing") then Some name.Missing
    else if bytes_eq w (codes "least") then Some name.Least
    else None

unfoldable pub named_term : List Token → Result (TermName × List Token) ConditionKind
named_term ts = do
  w ← or_bad_form (first_of bytes_in ts)
  n ← or_bad_form (term_name w.0)
  Ok (n, w.1)

-- [ "(" label ")" ]
abbrev pub label_in_parentheses : List Token → Names → Option (List Token) → ReadResult (Option ℕ)
label_in_parentheses ts names None = Ok (None, ts, names)
label_in_parentheses ts names (Some nested_within) = do
  l ← label nested_within names
  end ← tokens_past closing l.1
  Ok (Some l.0, end, l.2)

unfoldable pub optional_label : Production (Option ℕ)
optional_label ts names = label_in_parentheses ts names (tokens_after opening ts)

-- "(" label "," label ")"
unfoldable pub two_labels : Production (ℕ × ℕ)
two_labels ts names = do
  start ← tokens_past opening ts
  l ← label start names
  middle ← tokens_past comma l.1
  m ← label middle l.2
  end ← tokens_past closing m.1
  Ok ((l.0, m.0), end, m.2)

-- term
unfoldable pub term_after_name : TermName → Production Term
term_after_name name.Vertices ts names = optional_label ts names >>= λ l. Ok (term.Vertices l.0, l.1, l.2)
term_after_name name.Edges ts names = optional_label ts names >>= λ l. Ok (term.Edges l.0, l.1, l.2)
term_after_name name.Joins ts names = two_labels ts names >>= λ l. Ok (term.Joins l.0.0 l.0.1, l.1, l.2)
term_after_name name.Kinds ts names = Ok (term.Kinds, ts, names)
term_after_name name.Degree ts names = Ok (term.Degree, ts, names)
term_after_name name.Missing ts names = Ok (term.Missing, ts, names)
term_after_name name.Least ts names = Ok (term.Least, ts, names)

unfoldable pub term_of : Production Term
term_of ts names = named_term ts >>= λ n. term_after_name n.0 n.1 names

-- [ factor "*" ]: 1 where none is written
abbrev pub factor_by : List Token → Option (List ℕ × List Token) → Result (ℕ × List Token) ConditionKind
factor_by ts None = Ok (1, ts)
factor_by ts (Some d) = do
  n ← value_up_to most_times d.0
  rest ← tokens_past times d.1
  Ok (n, rest)

unfoldable pub factor : List Token → Result (ℕ × List Token) ConditionKind
factor ts = factor_by ts (first_of digits_in ts)

-- use = [ factor "*" ] term
unfoldable pub use_of : Production Factor
use_of ts names = do
  n ← factor ts
  t ← term_of n.1 names
  Ok (record { times = n.0; term = t.0 }, t.1, t.2)

-- what is read where a token comes first, and where it doesn't
abbrev pub if_present : {A : Type 0} → Option (List Token) → (List Token → ReadResult A) → ReadResult A → ReadResult A
if_present (Some ts) present absent = present ts
if_present None present absent = absent

-- { "+" use }, as long as there is room for a use more
unfoldable pub more_uses : ℕ → List Factor → Production (List Factor)
more_uses zero sum ts names = if_present (tokens_after plus ts) (λ _. Err BadForm) (Ok (sum, ts, names))
more_uses (suc room) sum ts names =
    if_present (tokens_after plus ts) (λ rest. use_of rest names >>= λ u. more_uses room (sum ++ u.0 ∷ []) u.1 u.2) (Ok (sum, ts, names))

-- sum = use { "+" use }
unfoldable pub sum_of : Production (List Factor)
sum_of ts names = use_of ts names >>= λ u. more_uses (most_factors - 1) (u.0 ∷ []) u.1 u.2

-- sum op bound
unfoldable pub comparison : Production Cond
comparison ts names = do
  s ← sum_of ts names
  o ← operator s.1
  b ← bound o.1
  Ok (roll-Cond (form.Compare s.0 o.0 b.0), b.1, s.2)

-- { separator item }, each item read after those so far. The number bounds the turns: there are no more than tokens.
unfoldable pub more_items : {S : Type 0} → Token → (S → Production S) → ℕ → S → Production S
more_items separator item zero so_far ts names = Ok (so_far, ts, names)
more_items separator item (suc turns) so_far ts names =
    if_present (tokens_after separator ts) (λ rest. item so_far rest names >>= λ r. more_items separator item turns r.0 r.1 r.2) (Ok (so_far, ts, names))

-- ---- shapes

-- a label more: there are 8 at most
unfoldable pub label_after : List ℕ → Production (List ℕ)
label_after labels ts names =
    if nat_lt (length labels) most_pattern_vertices then (label ts names >>= λ l. Ok (labels ++ l.0 ∷ [], l.1, l.2)) else Err BadForm

-- label { "," label }
unfoldable pub pattern_labels : Production (List ℕ)
pattern_labels ts names = label_after [] ts names >>= λ l. more_items comma label_after (length l.1) l.0 l.1 l.2

-- the number of one of n vertices: 1 to 10 digits that say 1 to n
unfoldable pub vertex_number : ℕ → List Token → Result (ℕ × List Token) ConditionKind
vertex_number n ts = do
  d ← or_bad_form (first_of digits_in ts)
  i ← value_up_to n d.0
  if nat_le 1 i then Ok (i, d.1) else Err BadForm

-- the two vertices differ, and none of the edges joins them
abbrev pub is_new_pair : List PatternEdge → ℕ → ℕ → Bool
is_new_pair edges a b = not (eqb a b) && not (list_any (has_numbers a b) edges)

-- the numbers of a pair after others, the lesser one first
unfoldable pub pair_numbers : ℕ → List PatternEdge → List Token → Result ((ℕ × ℕ) × List Token) ConditionKind
pair_numbers n edges ts = do
  a ← vertex_number n ts
  b ← vertex_number n a.1
  if is_new_pair edges a.0 b.0 then Ok ((min a.0 b.0, max a.0 b.0), b.1) else Err BadForm

abbrev pub begins_with : {A : Type 0} → (Token → Option A) → List Token → Bool
begins_with kind [] = false
begins_with kind (t ∷ ts) = is_some (kind t)

-- [ label ]: `_` where none is written
unfoldable pub pair_label : Production ℕ
pair_label ts names = if begins_with bytes_in ts then label ts names else Ok (0, ts, names)

-- an edge among others, ascending
abbrev pub with_edge : PatternEdge → List PatternEdge → List PatternEdge
with_edge e [] = e ∷ []
with_edge e (f ∷ fs) = if comes_after f.low f.high e then f ∷ with_edge e fs else e ∷ f ∷ fs

-- pair = number number [ label ], after those so far
unfoldable pub pair_after : ℕ → List PatternEdge → Production (List PatternEdge)
pair_after n edges ts names = do
  p ← pair_numbers n edges ts
  l ← pair_label p.1 names
  Ok (with_edge (record { low = p.0.0; high = p.0.1; label = l.0 }) edges, l.1, l.2)

-- [ pair { "," pair } ]
unfoldable pub pairs : ℕ → Production (List PatternEdge)
pairs n ts names =
    if begins_with digits_in ts then (pair_after n [] ts names >>= λ e. more_items comma (pair_after n) (length e.1) e.0 e.1 e.2) else Ok ([], ts, names)

-- "(" label { "," label } ";" [ pair { "," pair } ] ")"
unfoldable pub pattern_of : Production Pattern
pattern_of ts names = do
  start ← tokens_past opening ts
  l ← pattern_labels start names
  middle ← tokens_past semicolon l.1
  e ← pairs (length l.0) middle l.2
  end ← tokens_past closing e.1
  Ok (record { labels = l.0; edges = e.0 }, end, e.2)

-- what may stand after one more `(`, and after one more `not`
pub record Nested : Type 0 where
  pub cond : Production Cond
  pub neg : Production Cond

-- "(" cond ")"
abbrev pub cond_in_parentheses : Nested → Production Cond
cond_in_parentheses nested_within ts names = do
  c ← nested_within.cond ts names
  end ← tokens_past closing c.1
  Ok (c.0, end, c.2)

-- atom = "true" | "false" | "(" cond ")" | "shape" pattern | sum op bound
unfoldable pub atom : Nested → Production Cond
atom nested_within ts names =
    if_present (tokens_after (word (codes "true")) ts) (λ rest. Ok (roll-Cond form.True, rest, names))
    (if_present (tokens_after (word (codes "false")) ts) (λ rest. Ok (roll-Cond form.False, rest, names))
    (if_present (tokens_after opening ts) (λ rest. cond_in_parentheses nested_within rest names)
    (if_present (tokens_after (word (codes "shape")) ts) (λ rest. pattern_of rest names >>= λ s. Ok (roll-Cond (form.Shape s.0), s.1, s.2))
    (comparison ts names))))

-- neg = "not" neg | atom
unfoldable pub neg : Nested → Production Cond
neg nested_within ts names =
    if_present (tokens_after (word (codes "not")) ts) (λ rest. nested_within.neg rest names >>= λ c. Ok (roll-Cond (form.Not c.0), c.1, c.2))
    (atom nested_within ts names)

-- the token of a joint, and what it makes of two conditions
abbrev pub joint_word : Joint → Token
joint_word And = word (codes "and")
joint_word Or = word (codes "or")

abbrev pub joined : Joint → Cond → Cond → Cond
joined And left right = roll-Cond (form.And left right)
joined Or left right = roll-Cond (form.Or left right)

-- one operand more, grouped to the left
abbrev pub join_after : Joint → Production Cond → Cond → Production Cond
join_after joint item left ts names = item ts names >>= λ c. Ok (joined joint left c.0, c.1, c.2)

-- { joint item }
abbrev pub chain : Joint → Production Cond → ℕ → Cond → Production Cond
chain joint item = more_items (joint_word joint) (join_after joint item)

-- item { joint item }
unfoldable pub joined_by : Joint → Production Cond → Production Cond
joined_by joint item ts names = item ts names >>= λ c. chain joint item (length c.1) c.0 c.1 c.2

-- conj = neg { "and" neg }
abbrev pub conj : Nested → Production Cond
conj nested_within = joined_by And (neg nested_within)

-- cond = conj { "or" conj }
abbrev pub cond_within : Nested → Production Cond
cond_within nested_within = joined_by Or (conj nested_within)

-- both by their joint
abbrev pub operand : Joint → Nested → Production Cond
operand And = neg
operand Or = conj

abbrev pub joined_operands : Joint → Nested → Production Cond
joined_operands joint nested_within = joined_by joint (operand joint nested_within)

-- what may stand after one more `(` or `not` where `room` more may be open: nothing, where none may
unfoldable pub nested_within : ℕ → Nested
nested_within zero = record { cond = λ ts names. Err TooDeep; neg = λ ts names. Err TooDeep }
nested_within (suc room) = record { cond = cond_within (nested_within room); neg = neg (nested_within room) }

-- a condition, and nothing after it
abbrev pub nothing_after : Cond × List Token × Names → Result (Cond × Names) ConditionKind
nothing_after (c, [], names) = Ok (c, names)
nothing_after (c, t ∷ ts, names) = Err BadForm

unfoldable pub condition : List Token → Names → Result (Cond × Names) ConditionKind
condition ts names = cond_within (nested_within most_depth) ts names >>= nothing_after

-- The condition that a text says, and the names then. Before the tokens are read, each byte has to be in one,
-- and there may not be too many.
abbrev pub condition_of_tokens : Option (List Token) → Names → Result (Cond × Names) ConditionKind
condition_of_tokens None names = Err BadForm
condition_of_tokens (Some ts) names = if nat_lt most_tokens (length ts) then Err TooLong else condition ts names

unfoldable pub condition_of : List ℕ → Names → Result (Cond × Names) ConditionKind
condition_of text names = condition_of_tokens (tokens_of text) names
