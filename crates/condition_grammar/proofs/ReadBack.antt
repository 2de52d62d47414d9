-- What is read of the tokens of a condition as it is written: that condition.
use Rattle.std.proofs.Common.{◌≡◌, ℕ, zero, suc, ◌+◌, ◌-◌, ◌*◌, ◌≤◌, Bool, true, false, cond, ◌&&◌, IsTrue, eqb, max, nat_lt, nat_le, List, [], ◌∷◌, ◌++◌, length, None, Some, Result, Ok, Err, unwrap_or, slice_get, codes, refl, sym, ap, subst₂, ◌∙◌, arith, append_assoc, append-nil, if◌then◌else◌}
use Rattle.std.specs.Prelude.{decimal}
use Rattle.std.specs.List.{sum_by}
use Rattle.std.proofs.lemmas.Bool.{and_parts, eqb-true, leb-true, ltb-true, le-ltb}
use Rattle.std.proofs.lemmas.List.Sums.{sum_by-cons}
use Rattle.std.proofs.lemmas.Option.{slice_get-get_or}
use Rattle.line_fields.specs.meaning.Names.{Names, AreNames, number_in}
use Rattle.conditions.specs.declared.condition.Cond.{Cond}
use Rattle.conditions.specs.declared.condition.Cond.TheFolds.{map-Cond}
use Rattle.conditions.specs.declared.condition.Cond.TheOpen as form
use Rattle.conditions.specs.declared.condition.Factor.{Factor}
use Rattle.conditions.specs.declared.condition.Op.{Op}
use Rattle.conditions.specs.declared.condition.Term.{Term}
use Rattle.conditions.specs.declared.condition.Term.TheVariants.{Vertices, Edges, Joins, Kinds, Degree, Missing, Least}
use Rattle.conditions.specs.meaning.Written.{WrittenSize, written_size, written_size_by, tokens_at, depth_at, term_tokens, factor_tokens, shape_tokens, sum_tokens, is_pattern_within, is_sum_within, are_numbers_within, IsWithinLimits, most_times, most_bound, most_factors, most_depth, most_tokens}
use Rattle.conditions.specs.declared.pattern.Pattern.{Pattern}
use Rattle.conditions.proofs.Forms.{of_form, by_form, fold-form}
use Rattle.condition_grammar.specs.declared.fault.ConditionKind.{ConditionKind}
use Rattle.condition_grammar.specs.declared.fault.ConditionKind.TheVariants.{BadForm, TooLong}
use Rattle.condition_grammar.specs.declared.joint.Joint.TheVariants.{And, Or}
use Rattle.condition_grammar.specs.meaning.Token.{Token, digits_in, word, number, opening, closing, comma, plus, times, op}
use Rattle.condition_grammar.specs.meaning.Lexing.{tokens_of}
use Rattle.condition_grammar.specs.meaning.Grammar.{Nested, ◌>>=◌, tokens_after, if_present, tokens_past, first_of, label, label_number, label_number_by, bound, operator, named_term, label_in_parentheses, optional_label, two_labels, term_after_name, term_of, factor, factor_by, use_of, more_uses, sum_of, comparison, cond_in_parentheses, atom, neg, chain, conj, cond_within, nested_within, nothing_after, pattern_of, condition, condition_of_tokens, condition_of}
use Rattle.condition_grammar.specs.meaning.Text.{cond_text, label_text, knows_labels, knows_pattern, knows_term}
use Rattle.condition_grammar.proofs.Chaining.{negated, closed, shaped, chain-stop, chain-more, joined_by-first, more_uses-stop, more_uses-more}
use Rattle.condition_grammar.proofs.Completing.{shape-completes}
use Rattle.condition_grammar.proofs.WrittenShapes.{shape-append, shape-derives, shape-long}
use Rattle.condition_grammar.proofs.Digits.{value_up_to-decimal}
use Rattle.condition_grammar.proofs.WrittenTokens.{Front, all_known, all_small, knows-form, numbers-form, front_term, front_times, front_factor, front_more, front_sum, front_round, front_at, front_by, front_cond, front_shape, known_label, known_number, tokens_of-written}

abbrev counted : List Token → ℕ → Result (ℕ × List Token) ConditionKind
counted ts n = Ok (n, ts)

-- ---- labels

module _ (names : Names) (are : AreNames names) where
  label-reads : (l : ℕ) (ts : List Token) → nat_lt l (length names) ≡ true → label (word (label_text names l) ∷ ts) names ≡ Ok (l, ts, names)
  unfolding label
  label-reads l ts known =
      let w = label_text names l in
      ap (λ t. cond t (Ok ((label_number names w).0, ts, (label_number names w).1)) (Err BadForm)) (known_label names l are.labels known)
      ∙ ap (λ o. Ok ((label_number_by names w o).0, ts, (label_number_by names w o).1)) (known_number names l are.distinct known)

  optional-none : (ts : List Token) → tokens_after opening ts ≡ None → optional_label ts names ≡ Ok (None, ts, names)
  unfolding optional_label
  optional-none ts lost = ap (label_in_parentheses ts names) lost

  optional-some : (l : ℕ) (ts : List Token) → nat_lt l (length names) ≡ true → optional_label (opening ∷ word (label_text names l) ∷ closing ∷ ts) names ≡ Ok (Some l, ts, names)
  unfolding optional_label
  optional-some l ts known = ap (λ r. r >>= λ l. tokens_past closing l.1 >>= λ end. Ok (Some l.0, end, l.2)) (label-reads l (closing ∷ ts) known)

  two-reads : (l m : ℕ) (ts : List Token) → nat_lt l (length names) ≡ true → nat_lt m (length names) ≡ true
      → two_labels (opening ∷ word (label_text names l) ∷ comma ∷ word (label_text names m) ∷ closing ∷ ts) names ≡ Ok ((l, m), ts, names)
  unfolding two_labels
  two-reads l m ts known known_too =
      let second = word (label_text names m) ∷ closing ∷ ts in
      ap (λ r. r >>= λ l. tokens_past comma l.1 >>= λ middle. label middle l.2 >>= λ m. tokens_past closing m.1 >>= λ end. Ok ((l.0, m.0), end, m.2)) (label-reads l (comma ∷ second) known)
      ∙ ap (λ r. r >>= λ m. tokens_past closing m.1 >>= λ end. Ok ((l, m.0), end, m.2)) (label-reads m (closing ∷ ts) known_too)

  -- ---- terms and uses

  term-reads : (t : Term) (ts : List Token) → knows_term names t ≡ true → tokens_after opening ts ≡ None → term_of (front_term names t ts) names ≡ Ok (t, ts, names)
  unfolding term_of named_term term_after_name
  term-reads (Vertices None) ts known lost = ap (λ r. r >>= λ l. Ok (Vertices l.0, l.1, l.2)) (optional-none ts lost)
  term-reads (Vertices (Some l)) ts known lost = ap (λ r. r >>= λ l. Ok (Vertices l.0, l.1, l.2)) (optional-some l ts known)
  term-reads (Edges None) ts known lost = ap (λ r. r >>= λ l. Ok (Edges l.0, l.1, l.2)) (optional-none ts lost)
  term-reads (Edges (Some l)) ts known lost = ap (λ r. r >>= λ l. Ok (Edges l.0, l.1, l.2)) (optional-some l ts known)
  term-reads (Joins l m) ts known lost =
      let both = and_parts (nat_lt l (length names)) (nat_lt m (length names)) known in
      ap (λ r. r >>= λ l. Ok (Joins l.0.0 l.0.1, l.1, l.2)) (two-reads l m ts both.0 both.1)
  term-reads Kinds ts known lost = refl
  term-reads Degree ts known lost = refl
  term-reads Missing ts known lost = refl
  term-reads Least ts known lost = refl

  -- a term begins with no number
  no_digits : (t : Term) (ts : List Token) → first_of digits_in (front_term names t ts) ≡ None
  no_digits (Vertices None) ts = refl
  no_digits (Vertices (Some l)) ts = refl
  no_digits (Edges None) ts = refl
  no_digits (Edges (Some l)) ts = refl
  no_digits (Joins l m) ts = refl
  no_digits Kinds ts = refl
  no_digits Degree ts = refl
  no_digits Missing ts = refl
  no_digits Least ts = refl

  factor-reads : (f : Factor) (ts : List Token) → nat_le f.times most_times ≡ true → factor (front_factor names f ts) ≡ Ok (f.times, front_term names f.term ts)
  unfolding factor
  factor-reads f ts few =
      let term = front_term names f.term ts in
      let le : f.times ≤ most_times = leb-true f.times most_times few in
      let by_times : (one : Bool) → eqb f.times 1 ≡ one → factor_by (front_times one f.times term) (first_of digits_in (front_times one f.times term)) ≡ Ok (f.times, term) =
      elim [
        | true ↦ λ e. ap (factor_by term) (no_digits f.term ts) ∙ ap (λ n. Ok (n, term)) (sym (eqb-true f.times 1 e))
        | false ↦ λ e. ap (λ r. r >>= λ n. tokens_past times (times ∷ term) >>= λ rest. Ok (n, rest)) (value_up_to-decimal f.times (omega (arith, le)) most_times le)
      ] in
      by_times (eqb f.times 1) refl

  use-reads : (f : Factor) (ts : List Token) → nat_le f.times most_times ≡ true → knows_term names f.term ≡ true → tokens_after opening ts ≡ None → use_of (front_factor names f ts) names ≡ Ok (f, ts, names)
  unfolding use_of
  use-reads f ts few known lost =
      ap (λ r. r >>= λ n. term_of n.1 names >>= λ t. Ok (record { times = n.0; term = t.0 }, t.1, t.2)) (factor-reads f ts few)
      ∙ ap (λ r. r >>= λ t. Ok (record { times = f.times; term = t.0 }, t.1, t.2)) (term-reads f.term ts known lost)

  -- ---- sums

  -- neither a `(` nor a `+` comes first
  record Ends (ts : List Token) : Type 0 where
    no_open : tokens_after opening ts ≡ None
    no_plus : tokens_after plus ts ≡ None

  -- no `(` stands after a factor
  more-no_open : (sum : List Factor) (ts : List Token) → tokens_after opening ts ≡ None → tokens_after opening (front_more names sum ts) ≡ None
  more-no_open [] ts lost = lost
  more-no_open (f ∷ sum) ts lost = refl

  more-reads : (more sum : List Factor) (room : ℕ) (ts : List Token) → length more ≤ room → all_small more ≡ true → all_known names more ≡ true → Ends ts
      → more_uses room sum (front_more names more ts) names ≡ Ok (sum ++ more, ts, names)
  more-reads [] sum room ts enough small known ends = more_uses-stop room sum ts names ends.no_plus ∙ ap (λ s. Ok (s, ts, names)) (sym (append-nil sum))
  more-reads (f ∷ more) sum room ts enough small known ends =
      let times = and_parts (nat_le f.times most_times) (all_small more) small in
      let labels = and_parts (knows_term names f.term) (all_known names more) known in
      let later = front_more names more ts in
      more_uses-more room sum (plus ∷ front_factor names f later) (front_factor names f later) later names names f (omega arith) refl (use-reads f later times.0 labels.0 (more-no_open more ts ends.no_open))
      ∙ more-reads more (sum ++ f ∷ []) (room - 1) ts (omega arith) times.1 labels.1 ends
      ∙ ap (λ s. Ok (s, ts, names)) (append_assoc sum (f ∷ []) more)

  sum-reads : (sum : List Factor) (ts : List Token) → 1 ≤ length sum → length sum ≤ most_factors → all_small sum ≡ true → all_known names sum ≡ true → Ends ts → sum_of (front_sum names sum ts) names ≡ Ok (sum, ts, names)
  unfolding sum_of
  sum-reads [] ts some few small known ends = absurd (omega arith)
  sum-reads (f ∷ sum) ts some few small known ends =
      let times = and_parts (nat_le f.times most_times) (all_small sum) small in
      let labels = and_parts (knows_term names f.term) (all_known names sum) known in
      let later = front_more names sum ts in
      ap (λ r. r >>= λ u. more_uses (most_factors - 1) (u.0 ∷ []) u.1 u.2) (use-reads f later times.0 labels.0 (more-no_open sum ts ends.no_open))
      ∙ more-reads sum (f ∷ []) (most_factors - 1) ts (omega arith) times.1 labels.1 ends

  comparison-reads : (sum : List Factor) (o : Op) (b : ℕ) (ts : List Token) → is_sum_within sum ≡ true → b ≤ most_bound → all_known names sum ≡ true
      → comparison (front_sum names sum (op o ∷ number (decimal b) ∷ ts)) names ≡ Ok (of_form (form.Compare sum o b), ts, names)
  unfolding comparison operator bound
  comparison-reads sum o b ts within few known =
      let parts = and_parts (nat_le 1 (length sum) && nat_le (length sum) most_factors) (all_small sum) within in
      let lengths = and_parts (nat_le 1 (length sum)) (nat_le (length sum) most_factors) parts.0 in
      let later = op o ∷ number (decimal b) ∷ ts in
      let ends : Ends later = record { no_open = refl; no_plus = refl } in
      ap (λ r. r >>= λ s. operator s.1 >>= λ o. bound o.1 >>= λ b. Ok (of_form (form.Compare s.0 o.0 b.0), b.1, s.2))
      (sum-reads sum later (leb-true 1 (length sum) lengths.0) (leb-true (length sum) most_factors lengths.1) parts.1 known ends)
      ∙ ap (λ r. r >>= counted ts >>= λ b. Ok (of_form (form.Compare sum o b.0), b.1, names)) (value_up_to-decimal b (omega (arith, few)) most_bound few)

  -- ---- how many tokens there are

  term-long : (t : Term) (ts : List Token) → length (front_term names t ts) ≡ term_tokens t + length ts
  term-long (Vertices None) ts = omega arith
  term-long (Vertices (Some l)) ts = omega arith
  term-long (Edges None) ts = omega arith
  term-long (Edges (Some l)) ts = omega arith
  term-long (Joins l m) ts = omega arith
  term-long Kinds ts = omega arith
  term-long Degree ts = omega arith
  term-long Missing ts = omega arith
  term-long Least ts = omega arith

  factor-long : (f : Factor) (ts : List Token) → length (front_factor names f ts) ≡ factor_tokens f + length ts
  factor-long f ts =
      elim (eqb f.times 1) as (λ one. length (front_times one f.times (front_term names f.term ts)) ≡ term_tokens f.term + (if one then 0 else 2) + length ts) [
        | true ↦ omega (arith, term-long f.term ts)
        | false ↦ omega (arith, term-long f.term ts)
      ]

  more-long : (sum : List Factor) (ts : List Token) → length (front_more names sum ts) ≡ sum_by factor_tokens sum + length sum + length ts
  more-long [] ts = omega arith
  more-long (f ∷ sum) ts = omega (arith, factor-long f (front_more names sum ts), more-long sum ts, sum_by-cons factor_tokens f sum)

  sum-long : (sum : List Factor) (ts : List Token) → length (front_sum names sum ts) ≡ sum_tokens sum + length ts
  sum-long [] ts = omega arith
  sum-long (f ∷ sum) ts = omega (arith, factor-long f (front_more names sum ts), more-long sum ts, sum_by-cons factor_tokens f sum)

  -- ---- atoms

  -- a comparison begins with no word of a condition and no `(`
  record Plain (ts : List Token) : Type 0 where
    no_not : tokens_after (word (codes "not")) ts ≡ None
    no_true : tokens_after (word (codes "true")) ts ≡ None
    no_false : tokens_after (word (codes "false")) ts ≡ None
    no_open : tokens_after opening ts ≡ None
    no_shape : tokens_after (word (codes "shape")) ts ≡ None

  term-plain : (t : Term) (ts : List Token) → Plain (front_term names t ts)
  term-plain (Vertices None) ts = record { no_not = refl; no_true = refl; no_false = refl; no_open = refl; no_shape = refl }
  term-plain (Vertices (Some l)) ts = record { no_not = refl; no_true = refl; no_false = refl; no_open = refl; no_shape = refl }
  term-plain (Edges None) ts = record { no_not = refl; no_true = refl; no_false = refl; no_open = refl; no_shape = refl }
  term-plain (Edges (Some l)) ts = record { no_not = refl; no_true = refl; no_false = refl; no_open = refl; no_shape = refl }
  term-plain (Joins l m) ts = record { no_not = refl; no_true = refl; no_false = refl; no_open = refl; no_shape = refl }
  term-plain Kinds ts = record { no_not = refl; no_true = refl; no_false = refl; no_open = refl; no_shape = refl }
  term-plain Degree ts = record { no_not = refl; no_true = refl; no_false = refl; no_open = refl; no_shape = refl }
  term-plain Missing ts = record { no_not = refl; no_true = refl; no_false = refl; no_open = refl; no_shape = refl }
  term-plain Least ts = record { no_not = refl; no_true = refl; no_false = refl; no_open = refl; no_shape = refl }

  factor-plain : (f : Factor) (ts : List Token) → Plain (front_factor names f ts)
  factor-plain f ts = elim (eqb f.times 1) as (λ one. Plain (front_times one f.times (front_term names f.term ts))) [
    | true ↦ term-plain f.term ts
    | false ↦ record { no_not = refl; no_true = refl; no_false = refl; no_open = refl; no_shape = refl }
  ]

  sum-plain : (sum : List Factor) (ts : List Token) → 1 ≤ length sum → Plain (front_sum names sum ts)
  sum-plain [] ts some = absurd (omega arith)
  sum-plain (f ∷ sum) ts some = factor-plain f (front_more names sum ts)

  module _ (within : Nested) (ts : List Token) where
    neg-true : neg within (word (codes "true") ∷ ts) names ≡ Ok (of_form form.True, ts, names)
    unfolding neg atom
    neg-true = refl

    neg-false : neg within (word (codes "false") ∷ ts) names ≡ Ok (of_form form.False, ts, names)
    unfolding neg atom
    neg-false = refl

    neg-plain : Plain ts → neg within ts names ≡ comparison ts names
    unfolding neg atom
    neg-plain plain =
        ap (λ o. if_present o (λ rest. within.neg rest names >>= negated) (atom within ts names)) plain.no_not
        ∙ ap (λ o. if_present o (λ rest. Ok (of_form form.True, rest, names)) (if_present (tokens_after (word (codes "false")) ts) (λ rest. Ok (of_form form.False, rest, names)) (if_present (tokens_after opening ts) (λ rest. cond_in_parentheses within rest names) (if_present (tokens_after (word (codes "shape")) ts) (λ rest. pattern_of rest names >>= shaped) (comparison ts names))))) plain.no_true
        ∙ ap (λ o. if_present o (λ rest. Ok (of_form form.False, rest, names)) (if_present (tokens_after opening ts) (λ rest. cond_in_parentheses within rest names) (if_present (tokens_after (word (codes "shape")) ts) (λ rest. pattern_of rest names >>= shaped) (comparison ts names)))) plain.no_false
        ∙ ap (λ o. if_present o (λ rest. cond_in_parentheses within rest names) (if_present (tokens_after (word (codes "shape")) ts) (λ rest. pattern_of rest names >>= shaped) (comparison ts names))) plain.no_open
        ∙ ap (λ o. if_present o (λ rest. pattern_of rest names >>= shaped) (comparison ts names)) plain.no_shape

  -- ---- operands

  abbrev and_word : Token
  and_word = word (codes "and")

  abbrev or_word : Token
  or_word = word (codes "or")

  abbrev and_join : Cond → Cond → Cond
  and_join c d = of_form (form.And c d)

  abbrev or_join : Cond → Cond → Cond
  or_join c d = of_form (form.Or c d)

  -- where a chain goes on after what was read as its operands so far
  abbrev AsConj : Cond → ℕ → List Token → List Token → Type 0
  AsConj c room us ts = (turns : ℕ) × (length ts ≤ turns) × (conj (nested_within room) us names ≡ chain And (neg (nested_within room)) turns c ts names)

  abbrev AsCond : Cond → ℕ → List Token → List Token → Type 0
  AsCond c room us ts = (turns : ℕ) × (length ts ≤ turns) × (cond_within (nested_within room) us names ≡ chain Or (conj (nested_within room)) turns c ts names)

  module _ (c : Cond) (room : ℕ) (us ts : List Token) where
    conj_from_neg : neg (nested_within room) us names ≡ Ok (c, ts, names) → AsConj c room us ts
    conj_from_neg read = (length ts, omega arith, joined_by-first And (neg (nested_within room)) us ts names names c read)

    conj_done : AsConj c room us ts → tokens_after and_word ts ≡ None → conj (nested_within room) us names ≡ Ok (c, ts, names)
    conj_done begun lost = begun.2 ∙ chain-stop And (neg (nested_within room)) begun.0 c ts names lost

    cond_from_conj : conj (nested_within room) us names ≡ Ok (c, ts, names) → AsCond c room us ts
    cond_from_conj read = (length ts, omega arith, joined_by-first Or (conj (nested_within room)) us ts names names c read)

    cond_done : AsCond c room us ts → tokens_after or_word ts ≡ None → cond_within (nested_within room) us names ≡ Ok (c, ts, names)
    cond_done begun lost = begun.2 ∙ chain-stop Or (conj (nested_within room)) begun.0 c ts names lost

  neg_not : (c : Cond) (room left : ℕ) (us ts : List Token) → room ≡ left + 1 → neg (nested_within left) us names ≡ Ok (c, ts, names) → neg (nested_within room) (word (codes "not") ∷ us) names ≡ Ok (of_form (form.Not c), ts, names)
  unfolding neg nested_within
  neg_not c zero left us ts is read = absurd (omega (arith, is))
  neg_not c (suc room) left us ts is read = ap (λ n. neg (nested_within n) us names >>= negated) (let e : room ≡ left = omega (arith, is) in e) ∙ ap (λ r. r >>= negated) read

  neg_round : (c : Cond) (room left : ℕ) (us ts : List Token) → room ≡ left + 1 → cond_within (nested_within left) us names ≡ Ok (c, closing ∷ ts, names) → neg (nested_within room) (opening ∷ us) names ≡ Ok (c, ts, names)
  unfolding neg atom nested_within
  neg_round c zero left us ts is read = absurd (omega (arith, is))
  neg_round c (suc room) left us ts is read = ap (λ n. cond_within (nested_within n) us names >>= closed) (let e : room ≡ left = omega (arith, is) in e) ∙ ap (λ r. r >>= closed) read

  -- ---- conditions

  -- The tokens of a condition that is this large are read as it, by the production that its place asks for: where
  -- one asks less of it, an operand more may follow.
  record ReadsBack (c : Cond) (w : WrittenSize) (f : Front) : Type 0 where
    same : f.binding ≡ w.binding
    some : 1 ≤ w.tokens
    long : (ts : List Token) → length (f.front ts) ≡ w.tokens + length ts
    as_neg : (room : ℕ) (ts : List Token) → depth_at 2 w ≤ room → neg (nested_within room) (front_at 2 f ts) names ≡ Ok (c, ts, names)
    as_conj : (room : ℕ) (ts : List Token) → depth_at 1 w ≤ room → AsConj c room (front_at 1 f ts) ts
    as_cond : (room : ℕ) (ts : List Token) → depth_at 0 w ≤ room → tokens_after and_word ts ≡ None → AsCond c room (front_at 0 f ts) ts

  at-long : (asked : ℕ) (c : Cond) (w : WrittenSize) (f : Front) (ts : List Token) → ReadsBack c w f → length (front_at asked f ts) ≡ tokens_at asked w + length ts
  at-long asked c w f ts reads =
      ap (λ n. length (front_round (nat_lt n asked) f ts)) reads.same
      ∙ (elim (nat_lt w.binding asked) as (λ low. length (front_round low f ts) ≡ w.tokens + 2 * (if low then 1 else 0) + length ts) [
        | true ↦ omega (arith, reads.long (closing ∷ ts))
        | false ↦ omega (arith, reads.long ts)
      ])

  -- what binds by 2
  tight-reads : (c : Cond) (tokens depth : ℕ) (front : List Token → List Token) → 1 ≤ tokens → ((ts : List Token) → length (front ts) ≡ tokens + length ts)
      → ((room : ℕ) (ts : List Token) → depth ≤ room → neg (nested_within room) (front ts) names ≡ Ok (c, ts, names))
      → ReadsBack c (record { binding = 2; tokens = tokens; depth = depth }) (record { binding = 2; front = front })
  tight-reads c tokens depth front some long reads = record {
    same = refl;
    some = some;
    long = long;
    as_neg = λ room ts enough. reads room ts (omega (arith, enough));
    as_conj = λ room ts enough. conj_from_neg c room (front ts) ts (reads room ts (omega (arith, enough)));
    as_cond = λ room ts enough lost.
        cond_from_conj c room (front ts) ts (conj_done c room (front ts) ts (conj_from_neg c room (front ts) ts (reads room ts (omega (arith, enough)))) lost);
  }

  module _ (c d : Cond) (wc wd : WrittenSize) (fc fd : Front) (left : ReadsBack c wc fc) (right : ReadsBack d wd fd) where
    and_begun : (room : ℕ) (ts : List Token) → max (depth_at 1 wc) (depth_at 2 wd) ≤ room → AsConj (and_join c d) room (front_at 1 fc (and_word ∷ front_at 2 fd ts)) ts
    and_begun room ts enough =
        let later = front_at 2 fd ts in
        let begun = left.as_conj room (and_word ∷ later) (omega (arith, enough)) in (
          begun.0 - 1,
          omega (arith, begun.1, at-long 2 d wd fd ts right),
          begun.2 ∙ chain-more And (neg (nested_within room)) begun.0 c d (and_word ∷ later) later ts names names begun.1 refl (right.as_neg room ts (omega (arith, enough))),
        )

    and-reads : ReadsBack (and_join c d) (written_size_by (form.And wc wd)) (front_by names (form.And fc fd))
    and-reads =
        let whole : List Token → List Token = λ ts. front_at 1 fc (and_word ∷ front_at 2 fd ts) in
        record {
          same = refl;
          some = omega arith;
          long = λ ts. omega (arith, at-long 1 c wc fc (and_word ∷ front_at 2 fd ts) left, at-long 2 d wd fd ts right);
          as_neg = λ room ts enough.
              let inner = whole (closing ∷ ts) in
              let less = room - 1 in
              let begun = and_begun less (closing ∷ ts) (omega (arith, enough)) in
              neg_round (and_join c d) room less inner ts (omega (arith, enough))
              (cond_done (and_join c d) less inner (closing ∷ ts) (cond_from_conj (and_join c d) less inner (closing ∷ ts) (conj_done (and_join c d) less inner (closing ∷ ts) begun refl)) refl);
          as_conj = λ room ts enough. and_begun room ts (omega (arith, enough));
          as_cond = λ room ts enough lost.
              cond_from_conj (and_join c d) room (whole ts) ts (conj_done (and_join c d) room (whole ts) ts (and_begun room ts (omega (arith, enough))) lost);
        }

    or_begun : (room : ℕ) (ts : List Token) → max (depth_at 0 wc) (depth_at 1 wd) ≤ room → tokens_after and_word ts ≡ None → AsCond (or_join c d) room (front_at 0 fc (or_word ∷ front_at 1 fd ts)) ts
    or_begun room ts enough lost =
        let later = front_at 1 fd ts in
        let begun = left.as_cond room (or_word ∷ later) (omega (arith, enough)) refl in (
          begun.0 - 1,
          omega (arith, begun.1, at-long 1 d wd fd ts right),
          begun.2 ∙ chain-more Or (conj (nested_within room)) begun.0 c d (or_word ∷ later) later ts names names begun.1 refl
              (conj_done d room later ts (right.as_conj room ts (omega (arith, enough))) lost),
        )

    or_round : (room : ℕ) (ts : List Token) → max (depth_at 0 wc) (depth_at 1 wd) + 1 ≤ room → neg (nested_within room) (opening ∷ front_at 0 fc (or_word ∷ front_at 1 fd (closing ∷ ts))) names ≡ Ok (or_join c d, ts, names)
    or_round room ts enough =
        let inner = front_at 0 fc (or_word ∷ front_at 1 fd (closing ∷ ts)) in
        let less = room - 1 in
        neg_round (or_join c d) room less inner ts (omega (arith, enough))
        (cond_done (or_join c d) less inner (closing ∷ ts) (or_begun less (closing ∷ ts) (omega (arith, enough)) refl) refl)

    or-reads : ReadsBack (or_join c d) (written_size_by (form.Or wc wd)) (front_by names (form.Or fc fd))
    or-reads = record {
      same = refl;
      some = omega arith;
      long = λ ts. omega (arith, at-long 0 c wc fc (or_word ∷ front_at 1 fd ts) left, at-long 1 d wd fd ts right);
      as_neg = λ room ts enough. or_round room ts (omega (arith, enough));
      as_conj = λ room ts enough.
          conj_from_neg (or_join c d) room (opening ∷ front_at 0 fc (or_word ∷ front_at 1 fd (closing ∷ ts))) ts (or_round room ts (omega (arith, enough)));
      as_cond = λ room ts enough lost. or_begun room ts (omega (arith, enough)) lost;
    }

  not-reads : (c : Cond) (w : WrittenSize) (f : Front) → ReadsBack c w f → ReadsBack (of_form (form.Not c)) (written_size_by (form.Not w)) (front_by names (form.Not f))
  not-reads c w f reads =
      tight-reads (of_form (form.Not c)) (1 + tokens_at 2 w) (1 + depth_at 2 w) (λ ts. word (codes "not") ∷ front_at 2 f ts) (omega arith)
      (λ ts. omega (arith, at-long 2 c w f ts reads))
      (λ room ts enough. neg_not c room (room - 1) (front_at 2 f ts) ts (omega (arith, enough)) (reads.as_neg (room - 1) ts (omega (arith, enough))))

  compare-reads : (sum : List Factor) (o : Op) (b : ℕ) → is_sum_within sum ≡ true → b ≤ most_bound → all_known names sum ≡ true
      → ReadsBack (of_form (form.Compare sum o b)) (written_size_by (form.Compare sum o b)) (front_by names (form.Compare sum o b))
  compare-reads sum o b within few known =
      let parts = and_parts (nat_le 1 (length sum) && nat_le (length sum) most_factors) (all_small sum) within in
      let some = leb-true 1 (length sum) (and_parts (nat_le 1 (length sum)) (nat_le (length sum) most_factors) parts.0).0 in
      tight-reads (of_form (form.Compare sum o b)) (sum_tokens sum + 2) 0 (λ ts. front_sum names sum (op o ∷ number (decimal b) ∷ ts)) (omega arith)
      (λ ts. omega (arith, sum-long sum (op o ∷ number (decimal b) ∷ ts)))
      (λ room ts enough.
      let whole = front_sum names sum (op o ∷ number (decimal b) ∷ ts) in
      neg-plain (nested_within room) whole (sum-plain sum (op o ∷ number (decimal b) ∷ ts) some) ∙ comparison-reads sum o b ts within few known)

  shape-reads : (s : Pattern) → is_pattern_within s ≡ true → knows_pattern names s ≡ true → ReadsBack (of_form (form.Shape s)) (written_size_by (form.Shape s)) (front_by names (form.Shape s))
  shape-reads s within known =
      tight-reads (of_form (form.Shape s)) (shape_tokens s) 0 (front_shape names s) (omega arith) (shape-long names s)
      (λ room ts enough. ap (λ us. neg (nested_within room) us names) (shape-append names s ts) ∙ shape-completes (front_shape names s []) names s names (shape-derives names are s within known) (nested_within room) ts)

  abbrev Given : Cond → Type 0
  Given c = IsTrue (are_numbers_within c) → IsTrue (knows_labels names c) → ReadsBack c (written_size c) (front_cond names c)

  form_reads : (x : form.Cond-F Cond) → ReadsBack (of_form x) (written_size_by (map-Cond Cond WrittenSize written_size x)) (front_by names (map-Cond Cond Front (front_cond names) x)) → ReadsBack (of_form x) (written_size (of_form x)) (front_cond names (of_form x))
  form_reads x reads = subst₂ (ReadsBack (of_form x)) (sym (fold-form WrittenSize written_size_by x)) (sym (fold-form Front (front_by names) x)) reads

  cond-reads : (c : Cond) → Given c
  cond-reads = by_form Given
      (λ numbers known. form_reads form.True (tight-reads (of_form form.True) 1 0 (λ ts. word (codes "true") ∷ ts) (omega arith) (λ ts. omega arith) (λ room ts enough. neg-true (nested_within room) ts)))
      (λ numbers known. form_reads form.False (tight-reads (of_form form.False) 1 0 (λ ts. word (codes "false") ∷ ts) (omega arith) (λ ts. omega arith) (λ room ts enough. neg-false (nested_within room) ts)))
      (λ sum o b numbers known.
      let x : form.Cond-F Cond = form.Compare sum o b in
      let parts = and_parts (is_sum_within sum) (nat_le b most_bound) (sym (numbers-form x) ∙ numbers) in
      form_reads x (compare-reads sum o b parts.0 (leb-true b most_bound parts.1) (sym (knows-form x names) ∙ known)))
      (λ c reads numbers known.
      let x : form.Cond-F Cond = form.Not c in
      form_reads x (not-reads c (written_size c) (front_cond names c) (reads (sym (numbers-form x) ∙ numbers) (sym (knows-form x names) ∙ known))))
      (λ c d reads reads_too numbers known.
      let x : form.Cond-F Cond = form.And c d in
      let within = and_parts (are_numbers_within c) (are_numbers_within d) (sym (numbers-form x) ∙ numbers) in
      let labels = and_parts (knows_labels names c) (knows_labels names d) (sym (knows-form x names) ∙ known) in
      form_reads x (and-reads c d (written_size c) (written_size d) (front_cond names c) (front_cond names d) (reads within.0 labels.0) (reads_too within.1 labels.1)))
      (λ c d reads reads_too numbers known.
      let x : form.Cond-F Cond = form.Or c d in
      let within = and_parts (are_numbers_within c) (are_numbers_within d) (sym (numbers-form x) ∙ numbers) in
      let labels = and_parts (knows_labels names c) (knows_labels names d) (sym (knows-form x names) ∙ known) in
      form_reads x (or-reads c d (written_size c) (written_size d) (front_cond names c) (front_cond names d) (reads within.0 labels.0) (reads_too within.1 labels.1)))
      (λ s numbers known.
      let x : form.Cond-F Cond = form.Shape s in
      form_reads x (shape-reads s (sym (numbers-form x) ∙ numbers) (sym (knows-form x names) ∙ known)))

  -- ---- a whole condition

  module _ (c : Cond) (within : IsWithinLimits c) (known : IsTrue (knows_labels names c)) where
    pub some_tokens : (ts : List Token) × (tokens_of (cond_text names c) ≡ Some ts) × (1 ≤ length ts)
    some_tokens =
        let reads = cond-reads c within.numbers known in
        ((front_cond names c).front [], tokens_of-written names are.labels c within.numbers known, omega (arith, reads.long [], reads.some))

    -- the text of a condition says that condition, and no label is new
    pub condition_of-written : condition_of (cond_text names c) names ≡ Ok (c, names)
    unfolding condition_of condition
    condition_of-written =
        let reads = cond-reads c within.numbers known in
        let f = front_cond names c in
        let ts = f.front [] in
        let here : front_at 0 f [] ≡ ts = ap (λ b. front_round b f []) (le-ltb f.binding 0 (omega arith)) in
        let no_pair : depth_at 0 (written_size c) ≡ (written_size c).depth + 0 = ap (λ b. (written_size c).depth + (if b then 1 else 0)) (le-ltb (written_size c).binding 0 (omega arith)) in
        let read = cond_done c most_depth (front_at 0 f []) [] (reads.as_cond most_depth [] (omega (arith, no_pair, within.depth)) refl) refl in
        ap (λ o. condition_of_tokens o names) (tokens_of-written names are.labels c within.numbers known)
        ∙ ap (λ b. cond b (Err TooLong) (condition ts names)) (le-ltb most_tokens (length ts) (omega (arith, reads.long [], within.tokens)))
        ∙ ap (λ us. cond_within (nested_within most_depth) us names >>= nothing_after) (sym here)
        ∙ ap (λ r. r >>= nothing_after) read
