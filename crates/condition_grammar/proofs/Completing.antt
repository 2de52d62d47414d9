-- Tokens that derive a condition are read as it.
use Rattle.std.proofs.Common.{◌≡◌, ℕ, zero, suc, ◌+◌, ◌-◌, ◌<◌, ◌≤◌, Bool, true, false, cond, min, max, nat_le, if◌then◌else◌, List, [], ◌∷◌, ◌++◌, length, Option, None, Some, Result, Ok, Err, codes, refl, sym, ap, subst, ◌∙◌, arith, append_assoc, append-nil, length-append}
use Rattle.line_fields.specs.meaning.Names.{Names}
use Rattle.conditions.specs.declared.condition.Cond.{Cond}
use Rattle.conditions.specs.declared.condition.Cond.TheOpen as form
use Rattle.conditions.specs.declared.condition.Cond.TheViews.{roll-Cond}
use Rattle.conditions.specs.declared.condition.Factor.{Factor}
use Rattle.conditions.specs.declared.condition.Op.{Op}
use Rattle.conditions.specs.declared.condition.Term.{Term}
use Rattle.conditions.specs.declared.condition.Term.TheVariants.{Vertices, Edges, Joins}
use Rattle.conditions.specs.meaning.Written.{most_bound, most_factors, most_pattern_vertices, most_depth}
use Rattle.conditions.specs.declared.pattern.Pattern.{Pattern}
use Rattle.conditions.specs.declared.pattern.PatternEdge.{PatternEdge}
use Rattle.std.proofs.lemmas.Bool.{le-leb, lt-ltb}
use Rattle.condition_grammar.specs.declared.fault.ConditionKind.{ConditionKind}
use Rattle.condition_grammar.specs.declared.fault.ConditionKind.TheVariants.{BadForm}
use Rattle.condition_grammar.specs.declared.joint.Joint.{Joint}
use Rattle.condition_grammar.specs.declared.joint.Joint.TheVariants.{And, Or}
use Rattle.condition_grammar.specs.meaning.Token.{Token, bytes_in, digits_in, word, number, opening, closing, comma, semicolon, plus, times, op}
use Rattle.condition_grammar.specs.meaning.Grammar.{Nested, ReadResult, ◌>>=◌, begins_with, is_new_pair, label_after, more_items, pair_after, pair_label, pair_numbers, pairs, pattern_labels, pattern_of, vertex_number, with_edge, tokens_after, if_present, or_bad_form, tokens_past, first_of, label, label_number, bound, operator, named_term, label_in_parentheses, optional_label, two_labels, term_after_name, term_of, factor, factor_by, use_of, more_uses, sum_of, comparison, cond_in_parentheses, atom, neg, joint_word, chain, joined_by, cond_within, operand, nested_within, nothing_after, condition_of}
use Rattle.condition_grammar.specs.meaning.Derivations as rule
use Rattle.condition_grammar.specs.meaning.Derivations.{IsLabel, IsNumber, AreEnds, DerivesTerm, DerivesUse, DerivesSum, DerivesLabels, DerivesPair, DerivesPairs, DerivesShape, Derives, Phrase, Says}
use Rattle.condition_grammar.proofs.Chaining.{items-stop, items-more, negated, closed, shaped, chain-stop, chain-more, joined_by-first, more_uses-stop, more_uses-more}
use Rattle.condition_grammar.proofs.Whole.{condition_of-tokens}

-- ---- terms and sums

pub label-completes : (w : List ℕ) (names : Names) (l : ℕ) (after : Names) (rest : List Token) → IsLabel w names l after → label (word w ∷ rest) names ≡ Ok (l, rest, after)
unfolding label
label-completes w names l after rest is =
    ap (λ b. cond b (Ok ((label_number names w).0, rest, (label_number names w).1)) (Err BadForm)) is.in_form ∙ ap (λ (p : ℕ × Names). Ok (p.0, rest, p.1)) (sym is.numbered)

optional-bare : (rest : List Token) (names : Names) → tokens_after opening rest ≡ None → optional_label rest names ≡ Ok (None, rest, names)
unfolding optional_label
optional-bare rest names lost = ap (label_in_parentheses rest names) lost

optional-completes : (w : List ℕ) (names : Names) (l : ℕ) (after : Names) (rest : List Token) → IsLabel w names l after → optional_label (opening ∷ word w ∷ closing ∷ rest) names ≡ Ok (Some l, rest, after)
unfolding optional_label
optional-completes w names l after rest is = ap (λ r. r >>= λ l. tokens_past closing l.1 >>= λ end. Ok (Some l.0, end, l.2)) (label-completes w names l after (closing ∷ rest) is)

two-completes : (w v : List ℕ) (names : Names) (l : ℕ) (mid : Names) (m : ℕ) (after : Names) (rest : List Token) → IsLabel w names l mid → IsLabel v mid m after
    → two_labels (opening ∷ word w ∷ comma ∷ word v ∷ closing ∷ rest) names ≡ Ok ((l, m), rest, after)
unfolding two_labels
two-completes w v names l mid m after rest is is_too =
    ap (λ r. r >>= λ l. tokens_past comma l.1 >>= λ middle. label middle l.2 >>= λ m. tokens_past closing m.1 >>= λ end. Ok ((l.0, m.0), end, m.2)) (label-completes w names l mid (comma ∷ word v ∷ closing ∷ rest) is)
    ∙ ap (λ r. r >>= λ m. tokens_past closing m.1 >>= λ end. Ok ((l, m.0), end, m.2)) (label-completes v mid m after (closing ∷ rest) is_too)

term-completes : (ts : List Token) (names : Names) (t : Term) (after : Names) → DerivesTerm ts names t after → (rest : List Token) → tokens_after opening rest ≡ None → term_of (ts ++ rest) names ≡ Ok (t, rest, after)
unfolding term_of named_term term_after_name
term-completes _ _ _ _ (rule.vertices names) rest lost = ap (λ r. r >>= λ l. Ok (Vertices l.0, l.1, l.2)) (optional-bare rest names lost)
term-completes _ _ _ _ (rule.vertices_of w names l after is) rest lost = ap (λ r. r >>= λ l. Ok (Vertices l.0, l.1, l.2)) (optional-completes w names l after rest is)
term-completes _ _ _ _ (rule.edges names) rest lost = ap (λ r. r >>= λ l. Ok (Edges l.0, l.1, l.2)) (optional-bare rest names lost)
term-completes _ _ _ _ (rule.edges_of w names l after is) rest lost = ap (λ r. r >>= λ l. Ok (Edges l.0, l.1, l.2)) (optional-completes w names l after rest is)
term-completes _ _ _ _ (rule.joins w v names l mid m after is is_too) rest lost = ap (λ r. r >>= λ l. Ok (Joins l.0.0 l.0.1, l.1, l.2)) (two-completes w v names l mid m after rest is is_too)
term-completes _ _ _ _ (rule.kinds names) rest lost = refl
term-completes _ _ _ _ (rule.degree names) rest lost = refl
term-completes _ _ _ _ (rule.missing names) rest lost = refl
term-completes _ _ _ _ (rule.least names) rest lost = refl

-- what begins a comparison: no word of a condition and no `(`
record Plain (ts : List Token) : Type 0 where
  no_not : tokens_after (word (codes "not")) ts ≡ None
  no_true : tokens_after (word (codes "true")) ts ≡ None
  no_false : tokens_after (word (codes "false")) ts ≡ None
  no_open : tokens_after opening ts ≡ None
  no_shape : tokens_after (word (codes "shape")) ts ≡ None

-- a term begins with its name
record Named (ts : List Token) : Type 0 where
  no_digits : first_of digits_in ts ≡ None
  plain : Plain ts

term-named : (ts : List Token) (names : Names) (t : Term) (after : Names) → DerivesTerm ts names t after → (rest : List Token) → Named (ts ++ rest)
term-named _ _ _ _ (rule.vertices names) rest = record { no_digits = refl; plain = record { no_not = refl; no_true = refl; no_false = refl; no_open = refl; no_shape = refl } }
term-named _ _ _ _ (rule.vertices_of w names l after is) rest = record { no_digits = refl; plain = record { no_not = refl; no_true = refl; no_false = refl; no_open = refl; no_shape = refl } }
term-named _ _ _ _ (rule.edges names) rest = record { no_digits = refl; plain = record { no_not = refl; no_true = refl; no_false = refl; no_open = refl; no_shape = refl } }
term-named _ _ _ _ (rule.edges_of w names l after is) rest = record { no_digits = refl; plain = record { no_not = refl; no_true = refl; no_false = refl; no_open = refl; no_shape = refl } }
term-named _ _ _ _ (rule.joins w v names l mid m after is is_too) rest = record { no_digits = refl; plain = record { no_not = refl; no_true = refl; no_false = refl; no_open = refl; no_shape = refl } }
term-named _ _ _ _ (rule.kinds names) rest = record { no_digits = refl; plain = record { no_not = refl; no_true = refl; no_false = refl; no_open = refl; no_shape = refl } }
term-named _ _ _ _ (rule.degree names) rest = record { no_digits = refl; plain = record { no_not = refl; no_true = refl; no_false = refl; no_open = refl; no_shape = refl } }
term-named _ _ _ _ (rule.missing names) rest = record { no_digits = refl; plain = record { no_not = refl; no_true = refl; no_false = refl; no_open = refl; no_shape = refl } }
term-named _ _ _ _ (rule.least names) rest = record { no_digits = refl; plain = record { no_not = refl; no_true = refl; no_false = refl; no_open = refl; no_shape = refl } }

use-plain : (ts : List Token) (names : Names) (u : Factor) (after : Names) → DerivesUse ts names u after → (rest : List Token) → Plain (ts ++ rest)
use-plain _ _ _ _ (rule.once ts names t after d) rest = (term-named ts names t after d rest).plain
use-plain _ _ _ _ (rule.many digits n ts names t after is d) rest = record { no_not = refl; no_true = refl; no_false = refl; no_open = refl; no_shape = refl }

sum-plain : (ts : List Token) (names : Names) (sum : List Factor) (after : Names) → DerivesSum ts names sum after → (rest : List Token) → Plain (ts ++ rest)
sum-plain _ _ _ _ (rule.one ts names u after d) rest = use-plain ts names u after d rest
sum-plain _ _ _ _ (rule.more ts us names sum mid u after d few e) rest = subst Plain (sym (append_assoc ts (plus ∷ us) rest)) (sum-plain ts names sum mid d (plus ∷ (us ++ rest)))

-- what is left of a factor and of a bound after their digits
abbrev with_times : List Token → ℕ → Result (ℕ × List Token) ConditionKind
with_times ts n = tokens_past times (times ∷ ts) >>= λ rest. Ok (n, rest)

abbrev with_bound : List Token → ℕ → Result (ℕ × List Token) ConditionKind
with_bound ts n = Ok (n, ts)

use-completes : (ts : List Token) (names : Names) (u : Factor) (after : Names) → DerivesUse ts names u after → (rest : List Token) → tokens_after opening rest ≡ None → use_of (ts ++ rest) names ≡ Ok (u, rest, after)
unfolding use_of factor
use-completes _ _ _ _ (rule.once ts names t after d) rest lost =
    ap (λ o. factor_by (ts ++ rest) o >>= λ n. term_of n.1 names >>= λ t. Ok (record { times = n.0; term = t.0 }, t.1, t.2)) (term-named ts names t after d rest).no_digits
    ∙ ap (λ r. r >>= λ t. Ok (record { times = 1; term = t.0 }, t.1, t.2)) (term-completes ts names t after d rest lost)
use-completes _ _ _ _ (rule.many digits n ts names t after is d) rest lost =
    ap (λ o. or_bad_form o >>= with_times (ts ++ rest) >>= λ n. term_of n.1 names >>= λ t. Ok (record { times = n.0; term = t.0 }, t.1, t.2)) is
    ∙ ap (λ r. r >>= λ t. Ok (record { times = n; term = t.0 }, t.1, t.2)) (term-completes ts names t after d rest lost)

-- what is left to read of a sum after the tokens that derive its first uses
record SumGoesOn (ts : List Token) (names : Names) (sum : List Factor) (rest : List Token) (after : Names) : Type 0 where
  room : ℕ
  long : length sum + room ≡ most_factors
  same : sum_of (ts ++ rest) names ≡ more_uses room sum rest after

sum-completes : (ts : List Token) (names : Names) (sum : List Factor) (after : Names) → DerivesSum ts names sum after → (rest : List Token) → tokens_after opening rest ≡ None → SumGoesOn ts names sum rest after
unfolding sum_of
sum-completes _ _ _ _ (rule.one ts names u after d) rest lost = record {
  room = most_factors - 1;
  long = omega arith;
  same = ap (λ r. r >>= λ u. more_uses (most_factors - 1) (u.0 ∷ []) u.1 u.2) (use-completes ts names u after d rest lost);
}
sum-completes _ _ _ _ (rule.more ts us names sum mid u after d few e) rest lost =
    let so_far = sum-completes ts names sum mid d (plus ∷ (us ++ rest)) refl in
    record {
      room = so_far.room - 1;
      long = omega (arith, so_far.long, few, length-append sum (u ∷ []));
      same = ap (λ x. sum_of x names) (append_assoc ts (plus ∷ us) rest)
          ∙ so_far.same
          ∙ more_uses-more so_far.room sum (plus ∷ (us ++ rest)) (us ++ rest) rest mid after u (omega (arith, so_far.long, few)) refl (use-completes us mid u after e rest lost);
    }

comparison-completes : (ts : List Token) (names : Names) (sum : List Factor) (after : Names) (o : Op) (digits : List ℕ) (b : ℕ) (rest : List Token) → DerivesSum ts names sum after → IsNumber most_bound digits b
    → comparison ((ts ++ op o ∷ number digits ∷ []) ++ rest) names ≡ Ok (roll-Cond (form.Compare sum o b), rest, after)
unfolding comparison operator bound
comparison-completes ts names sum after o digits b rest d is =
    let later = op o ∷ number digits ∷ rest in
    let goes_on = sum-completes ts names sum after d later refl in
    ap (λ x. comparison x names) (append_assoc ts (op o ∷ number digits ∷ []) rest)
    ∙ ap (λ r. r >>= λ s. operator s.1 >>= λ o. bound o.1 >>= λ b. Ok (roll-Cond (form.Compare s.0 o.0 b.0), b.1, s.2)) (goes_on.same ∙ more_uses-stop goes_on.room sum later after refl)
    ∙ ap (λ x. or_bad_form x >>= with_bound rest >>= λ b. Ok (roll-Cond (form.Compare sum o b.0), b.1, after)) is

-- ---- shapes

label_after-completes : (labels : List ℕ) (w : List ℕ) (names : Names) (l : ℕ) (after : Names) (rest : List Token) → length labels < most_pattern_vertices → IsLabel w names l after
    → label_after labels (word w ∷ rest) names ≡ Ok (labels ++ l ∷ [], rest, after)
unfolding label_after
label_after-completes labels w names l after rest few is =
    ap (λ b. cond b (label (word w ∷ rest) names >>= λ l. Ok (labels ++ l.0 ∷ [], l.1, l.2)) (Err BadForm)) (lt-ltb (length labels) most_pattern_vertices few)
    ∙ ap (λ r. r >>= λ l. Ok (labels ++ l.0 ∷ [], l.1, l.2)) (label-completes w names l after rest is)

-- what is left to read of the labels after the tokens that derive the first ones
record LabelsGoOn (ts : List Token) (names : Names) (labels : List ℕ) (rest : List Token) (after : Names) : Type 0 where
  turns : ℕ
  enough : length rest ≤ turns
  same : pattern_labels (ts ++ rest) names ≡ more_items comma label_after turns labels rest after

labels-completes : (ts : List Token) (names : Names) (labels : List ℕ) (after : Names) → DerivesLabels ts names labels after → (rest : List Token) → LabelsGoOn ts names labels rest after
unfolding pattern_labels
labels-completes _ _ _ _ (rule.one_label w names l after is) rest = record {
  turns = length rest;
  enough = omega arith;
  same = ap (λ r. r >>= λ l. more_items comma label_after (length l.1) l.0 l.1 l.2) (label_after-completes [] w names l after rest (omega arith) is);
}
labels-completes _ _ _ _ (rule.more_labels ts w names labels mid l after d few is) rest =
    let so_far = labels-completes ts names labels mid d (comma ∷ word w ∷ rest) in
    record {
      turns = so_far.turns - 1;
      enough = omega (arith, so_far.enough);
      same = ap (λ x. pattern_labels x names) (append_assoc ts (comma ∷ word w ∷ []) rest)
          ∙ so_far.same
          ∙ items-more comma label_after so_far.turns labels (labels ++ l ∷ []) (comma ∷ word w ∷ rest) (word w ∷ rest) rest mid after so_far.enough refl (label_after-completes labels w mid l after rest few is);
    }

abbrev with_number : ℕ → List Token → ℕ × List Token
with_number i rest = (i, rest)

abbrev no_label : List Token → Names → ℕ × List Token × Names
no_label rest names = (0, rest, names)

abbrev no_edges : List Token → Names → List PatternEdge × List Token × Names
no_edges rest names = ([], rest, names)

-- a number that is read, if it is not 0
abbrev from_one : List Token → ℕ → Result (ℕ × List Token) ConditionKind
from_one rest i = if nat_le 1 i then Ok (i, rest) else Err BadForm

number-completes : (n : ℕ) (digits : List ℕ) (i : ℕ) (rest : List Token) → IsNumber n digits i → 1 ≤ i → vertex_number n (number digits ∷ rest) ≡ Ok (i, rest)
unfolding vertex_number
number-completes n digits i rest is some = ap (λ o. or_bad_form o >>= from_one rest) is ∙ ap (λ b. cond b (Ok (with_number i rest)) (Err BadForm)) (le-leb 1 i some)

-- two numbers that are read, if they differ and no edge joins them
abbrev paired : List PatternEdge → ℕ → ℕ × List Token → Result ((ℕ × ℕ) × List Token) ConditionKind
paired edges a b = if is_new_pair edges a b.0 then Ok ((min a b.0, max a b.0), b.1) else Err BadForm

abbrev with_ends : ℕ → ℕ → List Token → (ℕ × ℕ) × List Token
with_ends a b rest = ((min a b, max a b), rest)

numbers-completes : (n : ℕ) (edges : List PatternEdge) (one other : List ℕ) (a b : ℕ) (rest : List Token) → AreEnds n edges one other a b → pair_numbers n edges (number one ∷ number other ∷ rest) ≡ Ok ((min a b, max a b), rest)
unfolding pair_numbers
numbers-completes n edges one other a b rest ends =
    ap (λ r. r >>= λ a. vertex_number n a.1 >>= paired edges a.0) (number-completes n one a (number other ∷ rest) ends.one_says ends.some_first)
    ∙ ap (λ r. r >>= paired edges a) (number-completes n other b rest ends.other_says ends.some_second)
    ∙ ap (λ t. cond t (Ok (with_ends a b rest)) (Err BadForm)) ends.new

abbrev edge_then : List PatternEdge → ℕ × ℕ → ℕ × List Token × Names → ReadResult (List PatternEdge)
edge_then edges p l = Ok (with_edge (record { low = p.0; high = p.1; label = l.0 }) edges, l.1, l.2)

label-bare : (rest : List Token) (names : Names) → begins_with bytes_in rest ≡ false → pair_label rest names ≡ Ok (0, rest, names)
unfolding pair_label
label-bare rest names lost = ap (λ b. cond b (label rest names) (Ok (no_label rest names))) lost

label-written : (w : List ℕ) (names : Names) (l : ℕ) (after : Names) (rest : List Token) → IsLabel w names l after → pair_label (word w ∷ rest) names ≡ Ok (l, rest, after)
unfolding pair_label
label-written w names l after rest is = label-completes w names l after rest is

pair-completes : (n : ℕ) (edges : List PatternEdge) (ts : List Token) (names : Names) (e : PatternEdge) (after : Names) → DerivesPair n edges ts names e after → (rest : List Token) → begins_with bytes_in rest ≡ false
    → pair_after n edges (ts ++ rest) names ≡ Ok (with_edge e edges, rest, after)
unfolding pair_after
pair-completes n edges _ _ _ _ (rule.bare_pair one other a b names ends) rest lost =
    ap (λ r. r >>= λ p. pair_label p.1 names >>= edge_then edges p.0) (numbers-completes n edges one other a b rest ends)
    ∙ ap (λ r. r >>= edge_then edges (min a b, max a b)) (label-bare rest names lost)
pair-completes n edges _ _ _ _ (rule.labelled_pair one other a b w names l after ends is) rest lost =
    ap (λ r. r >>= λ p. pair_label p.1 names >>= edge_then edges p.0) (numbers-completes n edges one other a b (word w ∷ rest) ends)
    ∙ ap (λ r. r >>= edge_then edges (min a b, max a b)) (label-written w names l after rest is)

pair-begins : (n : ℕ) (edges : List PatternEdge) (ts : List Token) (names : Names) (e : PatternEdge) (after : Names) → DerivesPair n edges ts names e after → (rest : List Token) → begins_with digits_in (ts ++ rest) ≡ true
pair-begins n edges _ _ _ _ (rule.bare_pair one other a b names ends) rest = refl
pair-begins n edges _ _ _ _ (rule.labelled_pair one other a b w names l after ends is) rest = refl

record PairsGoOn (n : ℕ) (ts : List Token) (names : Names) (edges : List PatternEdge) (rest : List Token) (after : Names) : Type 0 where
  turns : ℕ
  enough : length rest ≤ turns
  same : pairs n (ts ++ rest) names ≡ more_items comma (pair_after n) turns edges rest after

pairs-completes : (n : ℕ) (ts : List Token) (names : Names) (edges : List PatternEdge) (after : Names) → DerivesPairs n ts names edges after → (rest : List Token) → begins_with bytes_in rest ≡ false → PairsGoOn n ts names edges rest after
unfolding pairs
pairs-completes n _ _ _ _ (rule.one_pair ts names e after d) rest lost = record {
  turns = length rest;
  enough = omega arith;
  same = ap (λ b. cond b (pair_after n [] (ts ++ rest) names >>= λ e. more_items comma (pair_after n) (length e.1) e.0 e.1 e.2) (Ok (no_edges (ts ++ rest) names))) (pair-begins n [] ts names e after d rest)
      ∙ ap (λ r. r >>= λ e. more_items comma (pair_after n) (length e.1) e.0 e.1 e.2) (pair-completes n [] ts names e after d rest lost);
}
pairs-completes n _ _ _ _ (rule.more_pairs ts us names edges mid e after d p) rest lost =
    let so_far = pairs-completes n ts names edges mid d (comma ∷ (us ++ rest)) refl in
    record {
      turns = so_far.turns - 1;
      enough = omega (arith, so_far.enough, length-append us rest);
      same = ap (λ x. pairs n x names) (append_assoc ts (comma ∷ us) rest)
          ∙ so_far.same
          ∙ items-more comma (pair_after n) so_far.turns edges (with_edge e edges) (comma ∷ (us ++ rest)) (us ++ rest) rest mid after so_far.enough refl (pair-completes n edges us mid e after p rest lost);
    }

-- what is read of a shape after its labels, and after its edges
abbrev after_edges : List ℕ → List PatternEdge × List Token × Names → ReadResult Pattern
after_edges labels e = tokens_past closing e.1 >>= λ end. Ok (record { labels = labels; edges = e.0 }, end, e.2)

abbrev after_labels : List ℕ × List Token × Names → ReadResult Pattern
after_labels l = tokens_past semicolon l.1 >>= λ middle. pairs (length l.0) middle l.2 >>= after_edges l.0

pattern-bare : (ts : List Token) (names : Names) (labels : List ℕ) (after : Names) (rest : List Token) → DerivesLabels ts names labels after
    → pattern_of (opening ∷ (ts ++ semicolon ∷ closing ∷ rest)) names ≡ Ok (record { labels = labels; edges = [] }, rest, after)
unfolding pattern_of pairs
pattern-bare ts names labels after rest d =
    let it = labels-completes ts names labels after d (semicolon ∷ closing ∷ rest) in
    ap (λ r. r >>= after_labels) (it.same ∙ items-stop comma label_after it.turns labels (semicolon ∷ closing ∷ rest) after refl)

pattern-edges : (ts us : List Token) (names : Names) (labels : List ℕ) (mid : Names) (edges : List PatternEdge) (after : Names) (rest : List Token) → DerivesLabels ts names labels mid → DerivesPairs (length labels) us mid edges after
    → pattern_of (opening ∷ (ts ++ semicolon ∷ (us ++ closing ∷ rest))) names ≡ Ok (record { labels = labels; edges = edges }, rest, after)
unfolding pattern_of
pattern-edges ts us names labels mid edges after rest d p =
    let later = semicolon ∷ (us ++ closing ∷ rest) in
    let it = labels-completes ts names labels mid d later in
    let those = pairs-completes (length labels) us mid edges after p (closing ∷ rest) refl in
    ap (λ r. r >>= after_labels) (it.same ∙ items-stop comma label_after it.turns labels later mid refl)
    ∙ ap (λ r. r >>= after_edges labels) (those.same ∙ items-stop comma (pair_after (length labels)) those.turns edges (closing ∷ rest) after refl)

shape-pattern : (ts : List Token) (names : Names) (within : Nested) → neg within (word (codes "shape") ∷ ts) names ≡ (pattern_of ts names >>= shaped)
unfolding neg atom
shape-pattern ts names within = refl

pub shape-completes : (ts : List Token) (names : Names) (s : Pattern) (after : Names) → DerivesShape ts names s after → (within : Nested) (rest : List Token) → neg within (ts ++ rest) names ≡ Ok (roll-Cond (form.Shape s), rest, after)
shape-completes _ _ _ _ (rule.edgeless ts names labels after d) within rest =
    shape-pattern (opening ∷ ((ts ++ semicolon ∷ closing ∷ []) ++ rest)) names within
    ∙ ap (λ us. pattern_of (opening ∷ us) names >>= shaped) (append_assoc ts (semicolon ∷ closing ∷ []) rest)
    ∙ ap (λ r. r >>= shaped) (pattern-bare ts names labels after rest d)
shape-completes _ _ _ _ (rule.with_edges ts us names labels mid edges after d p) within rest =
    shape-pattern (opening ∷ ((ts ++ semicolon ∷ (us ++ closing ∷ [])) ++ rest)) names within
    ∙ ap (λ vs. pattern_of (opening ∷ vs) names >>= shaped) (append_assoc ts (semicolon ∷ us ++ closing ∷ []) rest ∙ ap (λ vs. ts ++ semicolon ∷ vs) (append_assoc us (closing ∷ []) rest))
    ∙ ap (λ r. r >>= shaped) (pattern-edges ts us names labels mid edges after rest d p)

-- ---- conditions

-- a comparison is read as a negation
neg-plain : (within : Nested) (ts : List Token) (names : Names) → Plain ts → neg within ts names ≡ comparison ts names
unfolding neg atom
neg-plain within ts names plain =
    let by_shape : Option (List Token) → ReadResult Cond = λ o. if_present o (λ rest. pattern_of rest names >>= shaped) (comparison ts names) in
    let by_open : Option (List Token) → ReadResult Cond = λ o. if_present o (λ rest. cond_in_parentheses within rest names) (by_shape (tokens_after (word (codes "shape")) ts)) in
    let by_false : Option (List Token) → ReadResult Cond = λ o. if_present o (λ rest. Ok (roll-Cond form.False, rest, names)) (by_open (tokens_after opening ts)) in
    let by_true : Option (List Token) → ReadResult Cond = λ o. if_present o (λ rest. Ok (roll-Cond form.True, rest, names)) (by_false (tokens_after (word (codes "false")) ts)) in
    ap (λ o. if_present o (λ rest. within.neg rest names >>= negated) (by_true (tokens_after (word (codes "true")) ts))) plain.no_not
    ∙ ap by_true plain.no_true
    ∙ ap by_false plain.no_false
    ∙ ap by_open plain.no_open
    ∙ ap by_shape plain.no_shape

neg-not : (room left : ℕ) (us rest : List Token) (names : Names) (c : Cond) (after : Names) → room ≡ left + 1 → neg (nested_within left) us names ≡ Ok (c, rest, after)
    → neg (nested_within room) (word (codes "not") ∷ us) names ≡ Ok (roll-Cond (form.Not c), rest, after)
unfolding neg nested_within
neg-not zero left us rest names c after is read = absurd (omega (arith, is))
neg-not (suc room) left us rest names c after is read = ap (λ n. neg (nested_within n) us names >>= negated) (let e : room ≡ left = omega (arith, is) in e) ∙ ap (λ r. r >>= negated) read

neg-group : (room left : ℕ) (us rest : List Token) (names : Names) (c : Cond) (after : Names) → room ≡ left + 1 → cond_within (nested_within left) us names ≡ Ok (c, closing ∷ rest, after)
    → neg (nested_within room) (opening ∷ us) names ≡ Ok (c, rest, after)
unfolding neg atom nested_within
neg-group zero left us rest names c after is read = absurd (omega (arith, is))
neg-group (suc room) left us rest names c after is read = ap (λ n. cond_within (nested_within n) us names >>= closed) (let e : room ≡ left = omega (arith, is) in e) ∙ ap (λ r. r >>= closed) read

-- where a chain goes on after what was read as its operands so far
abbrev AsOperands : Joint → Cond → ℕ → List Token → Names → List Token → Names → Type 0
AsOperands j c room us names rest after =
    (turns : ℕ) × (length rest ≤ turns) × (joined_by j (operand j (nested_within room)) us names ≡ chain j (operand j (nested_within room)) turns c rest after)

-- after an operand of `or` no `and` may follow
abbrev StopsOperand : Joint → List Token → Type 0
StopsOperand And rest = Unit {0}
StopsOperand Or rest = tokens_after (joint_word And) rest ≡ None

stops-joint : (j : Joint) (rest : List Token) → StopsOperand j (joint_word j ∷ rest)
stops-joint And rest = tt
stops-joint Or rest = refl

found-joint : (j : Joint) (rest : List Token) → tokens_after (joint_word j) (joint_word j ∷ rest) ≡ Some rest
found-joint And rest = refl
found-joint Or rest = refl

operands-done : (j : Joint) (c : Cond) (room : ℕ) (us : List Token) (names : Names) (rest : List Token) (after : Names) → AsOperands j c room us names rest after → tokens_after (joint_word j) rest ≡ None
    → joined_by j (operand j (nested_within room)) us names ≡ Ok (c, rest, after)
operands-done j c room us names rest after begun lost = begun.2 ∙ chain-stop j (operand j (nested_within room)) begun.0 c rest after lost

-- what is read of tokens that derive a condition as such a phrase, whatever may follow
abbrev Completes : Phrase → List Token → ℕ → Names → Cond → Names → Type 0
Completes (rule.operands j) ts depth names c after = (room : ℕ) → depth ≤ room → (rest : List Token) → StopsOperand j rest → AsOperands j c room (ts ++ rest) names rest after
Completes rule.neg ts depth names c after = (room : ℕ) → depth ≤ room → (rest : List Token) → neg (nested_within room) (ts ++ rest) names ≡ Ok (c, rest, after)
Completes rule.atom ts depth names c after = (room : ℕ) → depth ≤ room → (rest : List Token) → neg (nested_within room) (ts ++ rest) names ≡ Ok (c, rest, after)

operand-completes : (j : Joint) (ts : List Token) (depth : ℕ) (names : Names) (c : Cond) (after : Names) → Completes (rule.operand j) ts depth names c after
    → (room : ℕ) → depth ≤ room → (rest : List Token) → StopsOperand j rest → operand j (nested_within room) (ts ++ rest) names ≡ Ok (c, rest, after)
operand-completes And ts depth names c after it room le rest stops = it room le rest
operand-completes Or ts depth names c after it room le rest stops = operands-done And c room (ts ++ rest) names rest after (it room le rest tt) stops

read-true : (within : Nested) (rest : List Token) (names : Names) → neg within (word (codes "true") ∷ rest) names ≡ Ok (roll-Cond form.True, rest, names)
unfolding neg atom
read-true within rest names = refl

read-false : (within : Nested) (rest : List Token) (names : Names) → neg within (word (codes "false") ∷ rest) names ≡ Ok (roll-Cond form.False, rest, names)
unfolding neg atom
read-false within rest names = refl

pub phrase-completes : (p : Phrase) (ts : List Token) (depth : ℕ) (names : Names) (c : Cond) (after : Names) → Derives p ts depth names c after → Completes p ts depth names c after
phrase-completes _ _ _ _ _ _ (rule.first j ts depth names c after d) = λ room le rest stops. (
  length rest,
  omega arith,
  joined_by-first j (operand j (nested_within room)) (ts ++ rest) rest names after c
      (operand-completes j ts depth names c after (phrase-completes (rule.operand j) ts depth names c after d) room le rest stops),
)
phrase-completes _ _ _ _ _ _ (rule.more_operands j ts us d e names a mid b after left right) = λ room le rest stops.
    let later = us ++ rest in
    let begun = phrase-completes (rule.operands j) ts d names a mid left room (omega (arith, le)) (joint_word j ∷ later) (stops-joint j later) in
    let read = operand-completes j us e mid b after (phrase-completes (rule.operand j) us e mid b after right) room (omega (arith, le)) rest stops in (
      begun.0 - 1,
      omega (arith, begun.1, length-append us rest),
      ap (λ x. joined_by j (operand j (nested_within room)) x names) (append_assoc ts (joint_word j ∷ us) rest)
          ∙ begun.2
          ∙ chain-more j (operand j (nested_within room)) begun.0 a b (joint_word j ∷ later) later rest mid after begun.1 (found-joint j later) read,
    )
phrase-completes _ _ _ _ _ _ (rule.negated ts depth names c after d) = λ room le rest.
    neg-not room (room - 1) (ts ++ rest) rest names c after (omega (arith, le)) (phrase-completes rule.neg ts depth names c after d (room - 1) (omega (arith, le)) rest)
phrase-completes _ _ _ _ _ _ (rule.plain ts depth names c after d) = phrase-completes rule.atom ts depth names c after d
phrase-completes _ _ _ _ _ _ (rule.always names) = λ room le rest. read-true (nested_within room) rest names
phrase-completes _ _ _ _ _ _ (rule.never names) = λ room le rest. read-false (nested_within room) rest names
phrase-completes _ _ _ _ _ _ (rule.grouped ts depth names c after d) = λ room le rest.
    let begun = phrase-completes rule.cond ts depth names c after d (room - 1) (omega (arith, le)) (closing ∷ rest) refl in
    ap (λ us. neg (nested_within room) (opening ∷ us) names) (append_assoc ts (closing ∷ []) rest)
    ∙ neg-group room (room - 1) (ts ++ closing ∷ rest) rest names c after (omega (arith, le)) (operands-done Or c (room - 1) (ts ++ closing ∷ rest) names (closing ∷ rest) after begun refl)
phrase-completes _ _ _ _ _ _ (rule.shaped ts names s after d) = λ room le rest. shape-completes ts names s after d (nested_within room) rest
phrase-completes _ _ _ _ _ _ (rule.compared ts names sum after o digits b d is) = λ room le rest.
    neg-plain (nested_within room) ((ts ++ op o ∷ number digits ∷ []) ++ rest) names
    (subst Plain (sym (append_assoc ts (op o ∷ number digits ∷ []) rest)) (sum-plain ts names sum after d (op o ∷ number digits ∷ rest)))
    ∙ comparison-completes ts names sum after o digits b rest d is

-- a text that says a condition is read as it
pub says-condition_of : (text : List ℕ) (names : Names) (c : Cond) (after : Names) → Says text names c after → condition_of text names ≡ Ok (c, after)
says-condition_of text names c after says =
    let ts = says.tokens in
    let begun = phrase-completes rule.cond ts says.depth names c after says.derives most_depth says.shallow [] refl in
    let read : cond_within (nested_within most_depth) ts names ≡ Ok (c, [], after) =
    ap (λ us. cond_within (nested_within most_depth) us names) (sym (append-nil ts)) ∙ operands-done Or c most_depth (ts ++ []) names [] after begun refl in
    condition_of-tokens text names ts says.cut says.few ∙ ap (λ r. r >>= nothing_after) read
