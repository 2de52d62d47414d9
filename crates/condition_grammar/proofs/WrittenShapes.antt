-- The tokens of a shape as it is written derive that shape.
use Rattle.std.proofs.Common.{◌≡◌, ℕ, ◌+◌, ◌-◌, ◌<◌, ◌≤◌, Bool, true, false, cond, not, ◌&&◌, ◌||◌, eqb, min, max, nat_lt, List, [], ◌∷◌, ◌++◌, length, None, Some, codes, refl, sym, ap, subst, ◌∙◌, arith, append_assoc, append-nil, length-append, if◌then◌else◌}
use Rattle.std.specs.Prelude.{decimal}
use Rattle.std.specs.List.{list_all, list_any, sum_by}
use Rattle.std.proofs.lemmas.Bool.{and_parts, and_from, eqb-true, le-leb, ne_eqb}
use Rattle.std.proofs.lemmas.List.Sums.{sum_by-cons}
use Rattle.std.proofs.lemmas.List.Folds.{list_all-append}
use Rattle.line_fields.specs.meaning.Names.{Names, AreNames}
use Rattle.conditions.specs.meaning.Fits.{has_numbers}
use Rattle.conditions.specs.meaning.Written.{come_in_order, is_pair_of, is_pattern_within, pair_tokens, shape_tokens, most_pattern_vertices}
use Rattle.conditions.specs.declared.pattern.Pattern.{Pattern}
use Rattle.conditions.specs.declared.pattern.PatternEdge.{PatternEdge}
use Rattle.condition_grammar.specs.meaning.Token.{Token, word, number, opening, closing, comma, semicolon}
use Rattle.condition_grammar.specs.meaning.Grammar.{at_most, label_number_by, is_new_pair, with_edge}
use Rattle.condition_grammar.specs.meaning.Text.{knows_edge, knows_label, knows_pattern, label_text}
use Rattle.condition_grammar.specs.meaning.Derivations as rule
use Rattle.condition_grammar.specs.meaning.Derivations.{AreEnds, IsLabel, IsNumber, DerivesLabels, DerivesPair, DerivesPairs, DerivesShape}
use Rattle.condition_grammar.proofs.Digits.{ten_digits-decimal}
use Rattle.condition_grammar.proofs.Edges.{last-new, last-with_edge, pair-less, pair-most, pair-some}
use Rattle.condition_grammar.proofs.WrittenTokens.{all_both, front_comma, front_edge, front_edge_label, front_label, front_list, front_shape, known_label, known_number, PatternWithin, pattern_within}

-- ---- lists with commas

module _ {A : Type 0} (front : A → List Token → List Token) (apart : (x : A) (ts : List Token) → front x ts ≡ front x [] ++ ts) where
  comma-append : (xs : List A) (ts : List Token) → front_comma front xs ts ≡ front_comma front xs [] ++ ts
  comma-append [] ts = refl
  comma-append (x ∷ xs) ts =
      ap (λ us. comma ∷ us)
      (apart x (front_comma front xs ts) ∙ ap (λ us. front x [] ++ us) (comma-append xs ts) ∙ sym (append_assoc (front x []) (front_comma front xs []) ts) ∙ ap (λ us. us ++ ts) (sym (apart x (front_comma front xs []))))

  list-append : (xs : List A) (ts : List Token) → front_list front xs ts ≡ front_list front xs [] ++ ts
  list-append [] ts = refl
  list-append (x ∷ xs) ts =
      apart x (front_comma front xs ts) ∙ ap (λ us. front x [] ++ us) (comma-append xs ts) ∙ sym (append_assoc (front x []) (front_comma front xs []) ts) ∙ ap (λ us. us ++ ts) (sym (apart x (front_comma front xs [])))

module _ (names : Names) where
  label-append : (l : ℕ) (ts : List Token) → front_label names l ts ≡ front_label names l [] ++ ts
  label-append l ts = refl

  edge-append : (e : PatternEdge) (ts : List Token) → front_edge names e ts ≡ front_edge names e [] ++ ts
  edge-append e ts = elim (eqb e.label 0) as (λ b. number (decimal e.low) ∷ number (decimal e.high) ∷ front_edge_label names e.label b ts ≡ (number (decimal e.low) ∷ number (decimal e.high) ∷ front_edge_label names e.label b []) ++ ts) [
    | true ↦ refl
    | false ↦ refl
  ]

  pub shape-append : (s : Pattern) (ts : List Token) → front_shape names s ts ≡ front_shape names s [] ++ ts
  shape-append s ts =
      let labels = front_list (front_label names) s.labels in
      let edges = front_list (front_edge names) s.edges in
      let edges_apart : edges (closing ∷ ts) ≡ edges (closing ∷ []) ++ ts =
      list-append (front_edge names) edge-append s.edges (closing ∷ ts) ∙ sym (append_assoc (edges []) (closing ∷ []) ts) ∙ ap (λ us. us ++ ts) (sym (list-append (front_edge names) edge-append s.edges (closing ∷ []))) in
      let later = semicolon ∷ edges (closing ∷ []) in
      let labels_apart : labels (later ++ ts) ≡ labels later ++ ts =
      list-append (front_label names) label-append s.labels (later ++ ts) ∙ sym (append_assoc (labels []) later ts) ∙ ap (λ us. us ++ ts) (sym (list-append (front_label names) label-append s.labels later)) in
      ap (λ us. word (codes "shape") ∷ opening ∷ us) (ap (λ us. labels (semicolon ∷ us)) edges_apart ∙ labels_apart)

  -- ---- how many tokens there are

  labels-long : (labels : List ℕ) (ts : List Token) → length (front_comma (front_label names) labels ts) ≡ length labels + length labels + length ts
  labels-long [] ts = omega arith
  labels-long (l ∷ labels) ts = omega (arith, labels-long labels ts)

  edge-long : (e : PatternEdge) (ts : List Token) → length (front_edge names e ts) ≡ pair_tokens e + length ts
  edge-long e ts = elim (eqb e.label 0) as (λ b. length (number (decimal e.low) ∷ number (decimal e.high) ∷ front_edge_label names e.label b ts) ≡ 2 + (if b then 0 else 1) + length ts) [
    | true ↦ omega arith
    | false ↦ omega arith
  ]

  edges-long : (edges : List PatternEdge) (ts : List Token) → length (front_comma (front_edge names) edges ts) ≡ sum_by pair_tokens edges + length edges + length ts
  edges-long [] ts = omega arith
  edges-long (e ∷ edges) ts = omega (arith, edge-long e (front_comma (front_edge names) edges ts), edges-long edges ts, sum_by-cons pair_tokens e edges)

  all-labels-long : (labels : List ℕ) (ts : List Token) → length (front_list (front_label names) labels ts) ≡ length labels + (length labels - 1) + length ts
  all-labels-long [] ts = omega arith
  all-labels-long (l ∷ labels) ts = omega (arith, labels-long labels ts)

  all-edges-long : (edges : List PatternEdge) (ts : List Token) → length (front_list (front_edge names) edges ts) ≡ sum_by pair_tokens edges + (length edges - 1) + length ts
  all-edges-long [] ts = omega arith
  all-edges-long (e ∷ edges) ts = omega (arith, edge-long e (front_comma (front_edge names) edges ts), edges-long edges ts, sum_by-cons pair_tokens e edges)

  pub shape-long : (s : Pattern) (ts : List Token) → length (front_shape names s ts) ≡ shape_tokens s + length ts
  shape-long s ts =
      let later = front_list (front_edge names) s.edges (closing ∷ ts) in
      omega (arith, all-labels-long s.labels (semicolon ∷ later), all-edges-long s.edges (closing ∷ ts))

-- ---- derivations

module _ (names : Names) (are : AreNames names) where
  is-label : (l : ℕ) → knows_label names l ≡ true → IsLabel (label_text names l) names l names
  is-label l known = record { in_form = known_label names l are.labels known; numbered = sym (ap (label_number_by names (label_text names l)) (known_number names l are.distinct known)) }

  more-labels : (labels : List ℕ) (ts : List Token) (so_far : List ℕ) → DerivesLabels ts names so_far names → length so_far + length labels ≤ most_pattern_vertices → list_all (knows_label names) labels ≡ true
      → DerivesLabels (ts ++ front_comma (front_label names) labels []) names (so_far ++ labels) names
  more-labels [] ts so_far d few known = subst (λ us. DerivesLabels us names (so_far ++ []) names) (sym (append-nil ts)) (subst (λ ls. DerivesLabels ts names ls names) (sym (append-nil so_far)) d)
  more-labels (l ∷ labels) ts so_far d few known =
      let both = and_parts (knows_label names l) (list_all (knows_label names) labels) known in
      let w = label_text names l in
      let step = rule.more_labels ts w names so_far names l names d (omega (arith, few)) (is-label l both.0) in
      let it = more-labels labels (ts ++ comma ∷ word w ∷ []) (so_far ++ l ∷ []) step (omega (arith, few, length-append so_far (l ∷ []))) both.1 in
      subst (λ us. DerivesLabels us names (so_far ++ l ∷ labels) names) (append_assoc ts (comma ∷ word w ∷ []) (front_comma (front_label names) labels []))
      (subst (λ ls. DerivesLabels ((ts ++ comma ∷ word w ∷ []) ++ front_comma (front_label names) labels []) names ls names) (append_assoc so_far (l ∷ []) labels) it)

  labels-derive : (labels : List ℕ) → 1 ≤ length labels → length labels ≤ most_pattern_vertices → list_all (knows_label names) labels ≡ true → DerivesLabels (front_list (front_label names) labels []) names labels names
  labels-derive [] some few known = absurd (omega arith)
  labels-derive (l ∷ labels) some few known =
      let both = and_parts (knows_label names l) (list_all (knows_label names) labels) known in
      more-labels labels (word (label_text names l) ∷ []) (l ∷ []) (rule.one_label (label_text names l) names l names (is-label l both.0)) (omega (arith, few)) both.1

  module _ (n : ℕ) (n_few : n ≤ most_pattern_vertices) where
    is-number : (i : ℕ) → i ≤ n → IsNumber n (decimal i) i
    is-number i le = ap (at_most n) (ten_digits-decimal i (omega (arith, le, n_few))) ∙ ap (λ b. if b then Some i else None) (le-leb i n le)

    pair-derives : (so_far : List PatternEdge) (e : PatternEdge) → is_pair_of n e ≡ true → list_any (has_numbers e.low e.high) so_far ≡ false → knows_edge names e ≡ true → DerivesPair n so_far (front_edge names e []) names e names
    pair-derives so_far e pair new known =
        let less = pair-less n e pair in
        let most = pair-most n e pair in
        let some = pair-some n e pair in
        let apart : eqb e.low e.high ≡ false = ne_eqb e.low e.high (λ same. omega (arith, same, less)) in
        let ends : AreEnds n so_far (decimal e.low) (decimal e.high) e.low e.high = record {
          one_says = is-number e.low (omega (arith, less, most));
          other_says = is-number e.high most;
          some_first = some;
          some_second = omega (arith, some, less);
          new = and_from (not (eqb e.low e.high)) _ (ap not apart) (ap not new);
        } in
        let low : min e.low e.high ≡ e.low = omega (arith, less) in
        let high : max e.low e.high ≡ e.high = omega (arith, less) in
        by_label e ends low high (eqb e.label 0) refl known
      where
        by_label : (e : PatternEdge) → AreEnds n so_far (decimal e.low) (decimal e.high) e.low e.high → min e.low e.high ≡ e.low → max e.low e.high ≡ e.high → (out : Bool) → eqb e.label 0 ≡ out → (out || knows_label names e.label) ≡ true
            → DerivesPair n so_far (number (decimal e.low) ∷ number (decimal e.high) ∷ front_edge_label names e.label out []) names e names
        by_label e ends low high true zero known =
            subst (λ a. DerivesPair n so_far (number (decimal e.low) ∷ number (decimal e.high) ∷ []) names (record { low = a; high = e.high; label = e.label }) names) low
            (subst (λ b. DerivesPair n so_far (number (decimal e.low) ∷ number (decimal e.high) ∷ []) names (record { low = min e.low e.high; high = b; label = e.label }) names) high
            (subst (λ l. DerivesPair n so_far (number (decimal e.low) ∷ number (decimal e.high) ∷ []) names (record { low = min e.low e.high; high = max e.low e.high; label = l }) names) (sym (eqb-true e.label 0 zero))
            (rule.bare_pair (decimal e.low) (decimal e.high) e.low e.high names ends)))
        by_label e ends low high false zero known =
            subst (λ a. DerivesPair n so_far (number (decimal e.low) ∷ number (decimal e.high) ∷ word (label_text names e.label) ∷ []) names (record { low = a; high = e.high; label = e.label }) names) low
            (subst (λ b. DerivesPair n so_far (number (decimal e.low) ∷ number (decimal e.high) ∷ word (label_text names e.label) ∷ []) names (record { low = min e.low e.high; high = b; label = e.label }) names) high
            (rule.labelled_pair (decimal e.low) (decimal e.high) e.low e.high (label_text names e.label) names e.label names ends (is-label e.label known)))

    more-edges : (edges : List PatternEdge) (ts : List Token) (so_far : List PatternEdge) → DerivesPairs n ts names so_far names → come_in_order 0 0 (so_far ++ edges) ≡ true → list_all (is_pair_of n) so_far ≡ true → list_all (is_pair_of n) edges ≡ true
        → list_all (knows_edge names) edges ≡ true → DerivesPairs n (ts ++ front_comma (front_edge names) edges []) names (so_far ++ edges) names
    more-edges [] ts so_far d order before pairs known = subst (λ us. DerivesPairs n us names (so_far ++ []) names) (sym (append-nil ts)) (subst (λ es. DerivesPairs n ts names es names) (sym (append-nil so_far)) d)
    more-edges (e ∷ edges) ts so_far d order before pairs known =
        let pair = and_parts (is_pair_of n e) (list_all (is_pair_of n) edges) pairs in
        let labels = and_parts (knows_edge names e) (list_all (knows_edge names) edges) known in
        let last = last-with_edge 0 0 so_far e edges order in
        let one = front_edge names e [] in
        let later = front_comma (front_edge names) edges [] in
        let step = subst (λ es. DerivesPairs n (ts ++ comma ∷ one) names es names) last.1
        (rule.more_pairs ts one names so_far names e names d (pair-derives so_far e pair.0 (last-new n 0 0 so_far e edges before pair.0 order) labels.0)) in
        let it = more-edges edges (ts ++ comma ∷ one) (so_far ++ e ∷ []) step (subst (λ es. come_in_order 0 0 es ≡ true) (sym (append_assoc so_far (e ∷ []) edges)) order)
        (list_all-append (is_pair_of n) so_far (e ∷ []) ∙ and_from _ _ before (and_from (is_pair_of n e) true pair.0 refl)) pair.1 labels.1 in
        subst (λ us. DerivesPairs n us names (so_far ++ e ∷ edges) names) (append_assoc ts (comma ∷ one) later ∙ ap (λ us. ts ++ comma ∷ us) (sym (edge-append names e later)))
        (subst (λ es. DerivesPairs n ((ts ++ comma ∷ one) ++ later) names es names) (append_assoc so_far (e ∷ []) edges) it)

    edges-derive : (e : PatternEdge) (edges : List PatternEdge) → come_in_order 0 0 (e ∷ edges) ≡ true → list_all (is_pair_of n) (e ∷ edges) ≡ true → list_all (knows_edge names) (e ∷ edges) ≡ true
        → DerivesPairs n (front_list (front_edge names) (e ∷ edges) []) names (e ∷ edges) names
    edges-derive e edges order pairs known =
        let pair = and_parts (is_pair_of n e) (list_all (is_pair_of n) edges) pairs in
        let labels = and_parts (knows_edge names e) (list_all (knows_edge names) edges) known in
        subst (λ us. DerivesPairs n us names (e ∷ edges) names) (sym (edge-append names e (front_comma (front_edge names) edges [])))
        (more-edges edges (front_edge names e []) (e ∷ []) (rule.one_pair (front_edge names e []) names e names (pair-derives [] e pair.0 refl labels.0)) order (and_from (is_pair_of n e) true pair.0 refl) pair.1 labels.1)

  pub shape-derives : (s : Pattern) → is_pattern_within s ≡ true → knows_pattern names s ≡ true → DerivesShape (front_shape names s []) names s names
  shape-derives s within known = by_edges s.edges parts.order parts.pairs labels.1
    where
      parts : PatternWithin s
      parts = pattern_within s within

      labels : (list_all (knows_label names) s.labels ≡ true) × (list_all (knows_edge names) s.edges ≡ true)
      labels = and_parts (list_all (knows_label names) s.labels) (list_all (knows_edge names) s.edges) known

      those : DerivesLabels (front_list (front_label names) s.labels []) names s.labels names
      those = labels-derive s.labels parts.some parts.few labels.0

      by_edges : (edges : List PatternEdge) → come_in_order 0 0 edges ≡ true → list_all (is_pair_of (length s.labels)) edges ≡ true → list_all (knows_edge names) edges ≡ true
          → DerivesShape (word (codes "shape") ∷ opening ∷ front_list (front_label names) s.labels (semicolon ∷ front_list (front_edge names) edges (closing ∷ []))) names (record { labels = s.labels; edges = edges }) names
      by_edges [] order pairs known =
          subst (λ us. DerivesShape (word (codes "shape") ∷ opening ∷ us) names (record { labels = s.labels; edges = [] }) names) (sym (list-append (front_label names) (label-append names) s.labels (semicolon ∷ closing ∷ [])))
          (rule.edgeless (front_list (front_label names) s.labels []) names s.labels names those)
      by_edges (e ∷ edges) order pairs known =
          let us = front_list (front_edge names) (e ∷ edges) [] in
          let apart = list-append (front_edge names) (edge-append names) (e ∷ edges) (closing ∷ []) in
          subst (λ us. DerivesShape (word (codes "shape") ∷ opening ∷ us) names (record { labels = s.labels; edges = e ∷ edges }) names)
          (sym (ap (λ vs. front_list (front_label names) s.labels (semicolon ∷ vs)) apart ∙ list-append (front_label names) (label-append names) s.labels (semicolon ∷ us ++ closing ∷ [])))
          (rule.with_edges (front_list (front_label names) s.labels []) us names s.labels names (e ∷ edges) names those (edges-derive (length s.labels) parts.few e edges order pairs known))
