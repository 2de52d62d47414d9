-- A condition as it is written.
use Rattle.std.specs.Prelude.{ℕ, Bool, true, ◌&&◌, ◌||◌, codes, decimal, eqb, nat_lt, if◌then◌else◌, List, [], ◌∷◌, ◌++◌, length, None, Some, unwrap_or, slice_get}
use Rattle.std.specs.List.{list_all}
use Rattle.line_fields.specs.meaning.Names.{Names}
use Rattle.conditions.specs.declared.condition.Cond.{Cond, fold-Cond}
use Rattle.conditions.specs.declared.condition.Cond.TheOpen.{Cond-F, True, False, Compare, Not, And, Or, Shape}
use Rattle.conditions.specs.declared.pattern.Pattern.{Pattern}
use Rattle.conditions.specs.declared.pattern.PatternEdge.{PatternEdge}
use Rattle.conditions.specs.declared.condition.Factor.{Factor}
use Rattle.conditions.specs.declared.condition.Op.{Op}
use Rattle.conditions.specs.declared.condition.Op.TheVariants.{AtMost, Below, AtLeast, Above, Equal, Unequal}
use Rattle.conditions.specs.declared.condition.Term.{Term}
use Rattle.conditions.specs.declared.condition.Term.TheVariants.{Vertices, Edges, Joins, Kinds, Degree, Missing, Least}

-- the name that a label's number stands for
abbrev pub label_text : Names → ℕ → List ℕ
label_text names l = unwrap_or (slice_get names l) []

-- a term's name, with its labels in parentheses right after it
abbrev pub term_text : Names → Term → List ℕ
term_text names (Vertices None) = codes "vertices"
term_text names (Vertices (Some l)) = codes "vertices(" ++ label_text names l ++ codes ")"
term_text names (Edges None) = codes "edges"
term_text names (Edges (Some l)) = codes "edges(" ++ label_text names l ++ codes ")"
term_text names (Joins l m) = codes "joins(" ++ label_text names l ++ codes "," ++ label_text names m ++ codes ")"
term_text names Kinds = codes "kinds"
term_text names Degree = codes "degree"
term_text names Missing = codes "missing"
term_text names Least = codes "least"

-- a factor of 1 isn't written
abbrev pub factor_text : Names → Factor → List ℕ
factor_text names f = (if eqb f.times 1 then [] else decimal f.times ++ codes "*") ++ term_text names f.term

-- the factors with ` + ` between them
abbrev pub more_text : Names → List Factor → List ℕ
more_text names [] = []
more_text names (f ∷ sum) = codes " + " ++ factor_text names f ++ more_text names sum

abbrev pub sum_text : Names → List Factor → List ℕ
sum_text names [] = []
sum_text names (f ∷ sum) = factor_text names f ++ more_text names sum

abbrev pub op_text : Op → List ℕ
op_text AtMost = codes "<="
op_text Below = codes "<"
op_text AtLeast = codes ">="
op_text Above = codes ">"
op_text Equal = codes "="
op_text Unequal = codes "!="

-- a list with a comma before each item
abbrev pub comma_text : {A : Type 0} → (A → List ℕ) → List A → List ℕ
comma_text text [] = []
comma_text text (x ∷ xs) = codes "," ++ text x ++ comma_text text xs

-- a list with commas between the items
abbrev pub list_text : {A : Type 0} → (A → List ℕ) → List A → List ℕ
list_text text [] = []
list_text text (x ∷ xs) = text x ++ comma_text text xs

-- an edge of a pattern: its two numbers, and its label where that isn't `_`
abbrev pub edge_text : Names → PatternEdge → List ℕ
edge_text names e = decimal e.low ++ codes " " ++ decimal e.high ++ (if eqb e.label 0 then [] else codes " " ++ label_text names e.label)

abbrev pub shape_text : Names → Pattern → List ℕ
shape_text names s = codes "shape(" ++ list_text (label_text names) s.labels ++ codes ";" ++ list_text (edge_text names) s.edges ++ codes ")"

-- a condition as it is written, and how tightly it binds: `or` 0, `and` 1, all else 2
pub record Text : Type 0 where
  pub binding : ℕ
  pub text : List ℕ

-- in parentheses where it binds less than its place asks
abbrev pub text_in_place : ℕ → Text → List ℕ
text_in_place asked t = if nat_lt t.binding asked then codes "(" ++ t.text ++ codes ")" else t.text

abbrev pub text_by : Names → Cond-F Text → Text
text_by names True = record { binding = 2; text = codes "true" }
text_by names False = record { binding = 2; text = codes "false" }
text_by names (Compare sum op bound) = record { binding = 2; text = sum_text names sum ++ codes " " ++ op_text op ++ codes " " ++ decimal bound }
text_by names (Not c) = record { binding = 2; text = codes "not " ++ text_in_place 2 c }
text_by names (And c d) = record { binding = 1; text = text_in_place 1 c ++ codes " and " ++ text_in_place 2 d }
text_by names (Shape s) = record { binding = 2; text = shape_text names s }
text_by names (Or c d) = record { binding = 0; text = text_in_place 0 c ++ codes " or " ++ text_in_place 1 d }

abbrev pub bound_text : Names → Cond → Text
bound_text names c = fold-Cond Text (text_by names) c

abbrev pub cond_text : Names → Cond → List ℕ
cond_text names c = (bound_text names c).text

-- each label of it has a name
abbrev pub knows_term : Names → Term → Bool
knows_term names (Vertices (Some l)) = nat_lt l (length names)
knows_term names (Edges (Some l)) = nat_lt l (length names)
knows_term names (Joins l m) = nat_lt l (length names) && nat_lt m (length names)
knows_term names t = true

abbrev pub knows_label : Names → ℕ → Bool
knows_label names l = nat_lt l (length names)

-- an edge with the label `_` is written without it
abbrev pub knows_edge : Names → PatternEdge → Bool
knows_edge names e = eqb e.label 0 || knows_label names e.label

abbrev pub knows_pattern : Names → Pattern → Bool
knows_pattern names s = list_all (knows_label names) s.labels && list_all (knows_edge names) s.edges

abbrev pub knows_labels_by : Names → Cond-F Bool → Bool
knows_labels_by names True = true
knows_labels_by names False = true
knows_labels_by names (Compare sum op bound) = list_all (λ f. knows_term names f.term) sum
knows_labels_by names (Not c) = c
knows_labels_by names (And c d) = c && d
knows_labels_by names (Or c d) = c && d
knows_labels_by names (Shape s) = knows_pattern names s

abbrev pub knows_labels : Names → Cond → Bool
knows_labels names c = fold-Cond Bool (knows_labels_by names) c
