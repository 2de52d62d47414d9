-- The grammar of conditions: which tokens derive what. Each constructor is an alternative of a production. A label
-- that is new after the names takes the next number, so a derivation leads from names to names.
use Rattle.std.specs.Prelude.{◌≡◌, ◌<◌, ◌≤◌, ℕ, suc, codes, IsTrue, min, max, List, [], ◌∷◌, ◌++◌, length, None, Some}
use Rattle.line_fields.specs.meaning.Fields.{is_label_word, number_of}
use Rattle.line_fields.specs.meaning.Names.{Names}
use Rattle.conditions.specs.declared.condition.Cond.{Cond}
use Rattle.conditions.specs.declared.condition.Cond.TheOpen as form
use Rattle.conditions.specs.declared.condition.Cond.TheViews.{roll-Cond}
use Rattle.conditions.specs.declared.condition.Factor.{Factor}
use Rattle.conditions.specs.declared.condition.Op.{Op}
use Rattle.conditions.specs.declared.condition.Term.{Term}
use Rattle.conditions.specs.declared.condition.Term.TheVariants.{Vertices, Edges, Joins, Kinds, Degree, Missing, Least}
use Rattle.conditions.specs.meaning.Written.{most_times, most_bound, most_factors, most_pattern_vertices, most_depth, most_tokens}
use Rattle.conditions.specs.declared.pattern.Pattern.{Pattern}
use Rattle.conditions.specs.declared.pattern.PatternEdge.{PatternEdge}
use Rattle.condition_grammar.specs.declared.joint.Joint.{Joint}
use Rattle.condition_grammar.specs.declared.joint.Joint.TheVariants.{And, Or}
use Rattle.condition_grammar.specs.meaning.Token.{Token, word, number, opening, closing, comma, semicolon, plus, times, op}
use Rattle.condition_grammar.specs.meaning.Lexing.{tokens_of}
use Rattle.condition_grammar.specs.meaning.Grammar.{at_most, is_new_pair, joint_word, joined, label_number, with_edge}

-- label: a word of 1 to 32 bytes, also one that means something elsewhere; its number, and the names then
pub record IsLabel (w : List ℕ) (names : Names) (l : ℕ) (after : Names) : Type 0 where
  pub in_form : IsTrue (is_label_word w)
  pub numbered : (l, after) ≡ label_number names w

-- factor, bound: a number of 1 to 10 digits, no larger than the most
abbrev pub IsNumber : ℕ → List ℕ → ℕ → Type 0
IsNumber most digits n = at_most most (number_of 10 digits) ≡ Some n

-- term = "vertices" [ "(" label ")" ] | "edges" [ "(" label ")" ] | "joins" "(" label "," label ")" | "kinds" | "degree" | "missing" | "least"
pub data DerivesTerm : List Token → Names → Term → Names → Type 0 where
  vertices : (names : Names) → DerivesTerm (word (codes "vertices") ∷ []) names (Vertices None) names
  vertices_of : (w : List ℕ) (names : Names) (l : ℕ) (after : Names) → IsLabel w names l after
      → DerivesTerm (word (codes "vertices") ∷ opening ∷ word w ∷ closing ∷ []) names (Vertices (Some l)) after
  edges : (names : Names) → DerivesTerm (word (codes "edges") ∷ []) names (Edges None) names
  edges_of : (w : List ℕ) (names : Names) (l : ℕ) (after : Names) → IsLabel w names l after
      → DerivesTerm (word (codes "edges") ∷ opening ∷ word w ∷ closing ∷ []) names (Edges (Some l)) after
  joins : (w v : List ℕ) (names : Names) (l : ℕ) (mid : Names) (m : ℕ) (after : Names) → IsLabel w names l mid → IsLabel v mid m after
      → DerivesTerm (word (codes "joins") ∷ opening ∷ word w ∷ comma ∷ word v ∷ closing ∷ []) names (Joins l m) after
  kinds : (names : Names) → DerivesTerm (word (codes "kinds") ∷ []) names Kinds names
  degree : (names : Names) → DerivesTerm (word (codes "degree") ∷ []) names Degree names
  missing : (names : Names) → DerivesTerm (word (codes "missing") ∷ []) names Missing names
  least : (names : Names) → DerivesTerm (word (codes "least") ∷ []) names Least names

-- use = [ factor "*" ] term: without a factor it is 1
pub data DerivesUse : List Token → Names → Factor → Names → Type 0 where
  once : (ts : List Token) (names : Names) (t : Term) (after : Names) → DerivesTerm ts names t after → DerivesUse ts names (record { times = 1; term = t }) after
  many : (digits : List ℕ) (n : ℕ) (ts : List Token) (names : Names) (t : Term) (after : Names) → IsNumber most_times digits n → DerivesTerm ts names t after
      → DerivesUse (number digits ∷ times ∷ ts) names (record { times = n; term = t }) after

-- sum = use { "+" use }: 16 uses at most
pub data DerivesSum : List Token → Names → List Factor → Names → Type 0 where
  one : (ts : List Token) (names : Names) (u : Factor) (after : Names) → DerivesUse ts names u after → DerivesSum ts names (u ∷ []) after
  more : (ts us : List Token) (names : Names) (sum : List Factor) (mid : Names) (u : Factor) (after : Names) → DerivesSum ts names sum mid → length sum < most_factors → DerivesUse us mid u after
      → DerivesSum (ts ++ plus ∷ us) names (sum ++ u ∷ []) after

-- label { "," label }: 8 labels at most
pub data DerivesLabels : List Token → Names → List ℕ → Names → Type 0 where
  one_label : (w : List ℕ) (names : Names) (l : ℕ) (after : Names) → IsLabel w names l after → DerivesLabels (word w ∷ []) names (l ∷ []) after
  more_labels : (ts : List Token) (w : List ℕ) (names : Names) (labels : List ℕ) (mid : Names) (l : ℕ) (after : Names) → DerivesLabels ts names labels mid → length labels < most_pattern_vertices → IsLabel w mid l after
      → DerivesLabels (ts ++ comma ∷ word w ∷ []) names (labels ++ l ∷ []) after

-- two numbers of a pair, of different ones of n vertices that no edge joins yet
pub record AreEnds (n : ℕ) (edges : List PatternEdge) (one other : List ℕ) (a b : ℕ) : Type 0 where
  pub one_says : IsNumber n one a
  pub other_says : IsNumber n other b
  pub some_first : 1 ≤ a
  pub some_second : 1 ≤ b
  pub new : IsTrue (is_new_pair edges a b)

-- pair = number number [ label ], after other edges: without a label it is `_`
pub data DerivesPair (n : ℕ) (edges : List PatternEdge) : List Token → Names → PatternEdge → Names → Type 0 where
  bare_pair : (one other : List ℕ) (a b : ℕ) (names : Names) → AreEnds n edges one other a b
      → DerivesPair n edges (number one ∷ number other ∷ []) names (record { low = min a b; high = max a b; label = 0 }) names
  labelled_pair : (one other : List ℕ) (a b : ℕ) (w : List ℕ) (names : Names) (l : ℕ) (after : Names) → AreEnds n edges one other a b → IsLabel w names l after
      → DerivesPair n edges (number one ∷ number other ∷ word w ∷ []) names (record { low = min a b; high = max a b; label = l }) after

-- pair { "," pair }: the edges, ascending
pub data DerivesPairs (n : ℕ) : List Token → Names → List PatternEdge → Names → Type 0 where
  one_pair : (ts : List Token) (names : Names) (e : PatternEdge) (after : Names) → DerivesPair n [] ts names e after → DerivesPairs n ts names (e ∷ []) after
  more_pairs : (ts us : List Token) (names : Names) (edges : List PatternEdge) (mid : Names) (e : PatternEdge) (after : Names) → DerivesPairs n ts names edges mid → DerivesPair n edges us mid e after
      → DerivesPairs n (ts ++ comma ∷ us) names (with_edge e edges) after

-- shape = "shape" "(" label { "," label } ";" [ pair { "," pair } ] ")"
pub data DerivesShape : List Token → Names → Pattern → Names → Type 0 where
  edgeless : (ts : List Token) (names : Names) (labels : List ℕ) (after : Names) → DerivesLabels ts names labels after
      → DerivesShape (word (codes "shape") ∷ opening ∷ (ts ++ semicolon ∷ closing ∷ [])) names (record { labels = labels; edges = [] }) after
  with_edges : (ts us : List Token) (names : Names) (labels : List ℕ) (mid : Names) (edges : List PatternEdge) (after : Names) → DerivesLabels ts names labels mid → DerivesPairs (length labels) us mid edges after
      → DerivesShape (word (codes "shape") ∷ opening ∷ (ts ++ semicolon ∷ (us ++ closing ∷ []))) names (record { labels = labels; edges = edges }) after

-- the phrases of a condition: operands with a joint between them, negations and atoms
pub data Phrase : Type 0 where
  operands : Joint → Phrase
  neg : Phrase
  atom : Phrase

abbrev pub cond : Phrase
cond = operands Or

abbrev pub conj : Phrase
conj = operands And

-- what stands between the words of a joint
abbrev pub operand : Joint → Phrase
operand And = neg
operand Or = conj

-- The tokens derive the condition as such a phrase. The number counts the `not` and the grouping parentheses that
-- are open at once where the most are.
pub data Derives : Phrase → List Token → ℕ → Names → Cond → Names → Type 0 where
  -- cond = conj { "or" conj }, conj = neg { "and" neg }, grouped to the left
  first : (j : Joint) (ts : List Token) (depth : ℕ) (names : Names) (c : Cond) (after : Names) → Derives (operand j) ts depth names c after → Derives (operands j) ts depth names c after
  more_operands : (j : Joint) (ts us : List Token) (d e : ℕ) (names : Names) (a : Cond) (mid : Names) (b : Cond) (after : Names) → Derives (operands j) ts d names a mid → Derives (operand j) us e mid b after
      → Derives (operands j) (ts ++ joint_word j ∷ us) (max d e) names (joined j a b) after
  -- neg = "not" neg | atom
  negated : (ts : List Token) (depth : ℕ) (names : Names) (c : Cond) (after : Names) → Derives neg ts depth names c after → Derives neg (word (codes "not") ∷ ts) (suc depth) names (roll-Cond (form.Not c)) after
  plain : (ts : List Token) (depth : ℕ) (names : Names) (c : Cond) (after : Names) → Derives atom ts depth names c after → Derives neg ts depth names c after
  -- atom = "true" | "false" | "(" cond ")" | shape | sum op bound
  always : (names : Names) → Derives atom (word (codes "true") ∷ []) 0 names (roll-Cond form.True) names
  never : (names : Names) → Derives atom (word (codes "false") ∷ []) 0 names (roll-Cond form.False) names
  grouped : (ts : List Token) (depth : ℕ) (names : Names) (c : Cond) (after : Names) → Derives cond ts depth names c after → Derives atom (opening ∷ ts ++ closing ∷ []) (suc depth) names c after
  shaped : (ts : List Token) (names : Names) (s : Pattern) (after : Names) → DerivesShape ts names s after → Derives atom ts 0 names (roll-Cond (form.Shape s)) after
  compared : (ts : List Token) (names : Names) (sum : List Factor) (after : Names) (o : Op) (digits : List ℕ) (b : ℕ) → DerivesSum ts names sum after → IsNumber most_bound digits b
      → Derives atom (ts ++ op o ∷ number digits ∷ []) 0 names (roll-Cond (form.Compare sum o b)) after

-- A text says a condition: each byte that isn't blank is in a token, there are at most 512, and they derive the
-- condition with at most 32 `not` and parentheses open at once.
pub record Says (text : List ℕ) (names : Names) (c : Cond) (after : Names) : Type 0 where
  pub tokens : List Token
  pub cut : tokens_of text ≡ Some tokens
  pub few : length tokens ≤ most_tokens
  pub depth : ℕ
  pub shallow : depth ≤ most_depth
  pub derives : Derives cond tokens depth names c after
