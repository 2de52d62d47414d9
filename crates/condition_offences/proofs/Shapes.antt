-- What comes of reading shapes.
use Rattle.std.proofs.Common.{◌≡◌, ℕ, zero, suc, ◌<◌, ◌≤◌, ◌⊎◌, inl, inr, Bool, true, false, cond, if◌then◌else◌, min, max, nat_le, lit<, List, [], ◌∷◌, ◌++◌, length, Option, None, Some, Result, Ok, Err, codes, refl, sym, ap, subst, ◌∙◌, arith, length-append}
use Rattle.std.specs.Prelude.{decimal}
use Rattle.std.proofs.Math.Nat.{lt_trans}
use Rattle.std.proofs.lemmas.Bool.{le-leb, leb-true}
use Rattle.line_fields.specs.meaning.Fields.{number_of}
use Rattle.line_fields.specs.meaning.Names.{Names}
use Rattle.conditions.specs.declared.pattern.Pattern.{Pattern}
use Rattle.conditions.specs.declared.pattern.PatternEdge.{PatternEdge}
use Rattle.conditions.specs.meaning.Written.{most_pattern_vertices}
use Rattle.condition_grammar.specs.declared.fault.ConditionKind.{ConditionKind}
use Rattle.condition_grammar.specs.declared.fault.ConditionKind.TheVariants.{BadForm}
use Rattle.condition_grammar.specs.meaning.Derivations as rule
use Rattle.condition_grammar.specs.meaning.Derivations.{AreEnds, DerivesLabels, DerivesPair, DerivesPairs, DerivesShape, IsLabel, IsNumber}
use Rattle.condition_grammar.specs.meaning.Grammar.{Production, ReadResult, ◌>>=◌, at_most, begins_with, is_new_pair, label, label_after, more_items, or_bad_form, pair_after, pair_label, pair_numbers, pairs, pattern_labels, pattern_of, tokens_past, vertex_number, with_edge}
use Rattle.condition_grammar.specs.meaning.Token.{Token, bytes_in, digits_in, word, number, opening, closing, comma, semicolon}
use Rattle.condition_grammar.proofs.Chaining.{pairs-fail, pairs-none}
use Rattle.condition_grammar.proofs.Digits.{ten_digits-decimal}
use Rattle.condition_grammar.proofs.Productions.{some_same}
use Rattle.condition_offences.proofs.Outcomes.{Blocked, Completable, Derivation, Joins, Outcome, Rule, ends, fails, first_token, listed, plain, prefixed, reads, sequence}
use Rattle.condition_offences.proofs.Tokens.{Items, Labelled, OneMore, IsToken, TokenThen, with_rest, in_turns, label-more, label-outcome, label_rule, limited-outcome, limited-within, limited_rule, offends_first, offends_second, pass, passes, passes-more, then_first, then-more, then_same}

-- ---- labels

abbrev one_label : List ℕ → Rule (List ℕ)
one_label = limited_rule most_pattern_vertices label Labelled

abbrev labels_rule : Rule (List ℕ)
labels_rule = plain pattern_labels DerivesLabels

label-first : (us : List Token) (names : Names) (labels : List ℕ) (after : Names) → OneMore most_pattern_vertices Labelled [] us names labels after → DerivesLabels us names labels after
label-first us names labels after d =
    subst (λ s. DerivesLabels us names s after) d.is
    (subst (λ ws. DerivesLabels ws names (d.value ∷ []) after) (sym d.derived.is) (rule.one_label d.derived.text names d.value after d.derived.labels))

label-next : (us vs : List Token) (names : Names) (labels : List ℕ) (mid : Names) (later : List ℕ) (after : Names) → DerivesLabels us names labels mid → OneMore most_pattern_vertices Labelled labels vs mid later after
    → DerivesLabels (us ++ comma ∷ vs) names later after
label-next us vs names labels mid later after d e =
    subst (λ s. DerivesLabels (us ++ comma ∷ vs) names s after) e.is
    (subst (λ ws. DerivesLabels (us ++ comma ∷ ws) names (labels ++ e.value ∷ []) after) (sym e.derived.is) (rule.more_labels us e.derived.text names labels mid e.value after d e.few e.derived.labels))

label-items : Items comma refl (one_label []) one_label labels_rule
unfolding pattern_labels label_after
label-items = record {
  is = λ ts names. refl;
  one = label-first;
  one_deeper = label-first;
  join = label-next;
  join_deeper = label-next;
  each = λ us names s mid d ts. limited-outcome most_pattern_vertices label Labelled label-outcome s ts mid;
}

labels-outcome : (ts : List Token) (names : Names) → Outcome labels_rule ts names
labels-outcome ts names =
    listed comma (one_label []) one_label labels_rule (in_turns comma refl (one_label []) one_label labels_rule label-items) names ts (limited-within most_pattern_vertices label Labelled label-outcome [] (omega arith) ts names)

labels-few : (ts : List Token) (names : Names) (labels : List ℕ) (after : Names) → DerivesLabels ts names labels after → length labels ≤ most_pattern_vertices
labels-few _ _ _ _ (rule.one_label w names l after is) = omega arith
labels-few _ _ _ _ (rule.more_labels ts w names labels mid l after d few is) = omega (arith, few, length-append labels (l ∷ []))

-- ---- numbers of vertices

-- one of 1 to n is of this kind, or all are of the other
find_up_to : {P Q : ℕ → Type 0} → ((i : ℕ) → P i ⊎ Q i) → (n : ℕ) → ((i : ℕ) × (1 ≤ i) × (i ≤ n) × P i) ⊎ ((i : ℕ) → 1 ≤ i → i ≤ n → Q i)
find_up_to which zero = inr (λ i some few. absurd (omega arith))
find_up_to {P} {Q} which (suc n) = elim (find_up_to which n) [
  | inl it ↦ inl (it.0, it.1, omega (arith, it.2), it.3)
  | inr none ↦ elim (which (suc n)) [
    | inl it ↦ inl (suc n, omega arith, omega arith, it)
    | inr it ↦ inr (λ i some few. by_last n none it i some few (at_last i n few))
  ]
]
  where
    at_last : (i n : ℕ) → i ≤ suc n → (i ≤ n) ⊎ (i ≡ suc n)
    at_last i n few = grind arith

    by_last : (n : ℕ) → ((i : ℕ) → 1 ≤ i → i ≤ n → Q i) → Q (suc n) → (i : ℕ) → 1 ≤ i → i ≤ suc n → (i ≤ n) ⊎ (i ≡ suc n) → Q i
    by_last n none it i some few (inl less) = none i some less
    by_last n none it i some few (inr is) = subst Q (sym is) it

-- a number of 1 to n, as digits say it
record IsVertex (n : ℕ) (digits : List ℕ) (i : ℕ) : Type 0 where
  says : IsNumber n digits i
  some : 1 ≤ i
  few : i ≤ n
  read : (ts : List Token) → vertex_number n (number digits ∷ ts) ≡ Ok (i, ts)

abbrev NoVertex : ℕ → List ℕ → Type 0
NoVertex n digits = (ts : List Token) → vertex_number n (number digits ∷ ts) ≡ Err BadForm

abbrev from_one : List Token → ℕ → Result (ℕ × List Token) ConditionKind
from_one ts i = if nat_le 1 i then Ok (with_rest ts i) else Err BadForm

at_most-few : (n : ℕ) (o : Option ℕ) (i : ℕ) → at_most n o ≡ Some i → i ≤ n
at_most-few n None i e = absurd (let lost : None ≡ Some i = e in cc)
at_most-few n (Some m) i e = by_test (nat_le m n) refl e
  where
    by_test : (b : Bool) → nat_le m n ≡ b → (if b then Some m else None) ≡ Some i → i ≤ n
    by_test true le same = omega (arith, leb-true m n le, some_same same)
    by_test false le same = absurd (let lost : None ≡ Some i = same in cc)

vertex-number : (n : ℕ) (digits : List ℕ) → ((i : ℕ) × IsVertex n digits i) ⊎ NoVertex n digits
unfolding vertex_number
vertex-number n digits = by_value (at_most n (number_of 10 digits)) refl
  where
    by_first : (i : ℕ) → at_most n (number_of 10 digits) ≡ Some i → (b : Bool) → nat_le 1 i ≡ b → ((i : ℕ) × IsVertex n digits i) ⊎ NoVertex n digits
    by_first i e true some = inl (
      i,
      record {
        says = e;
        some = leb-true 1 i some;
        few = at_most-few n (number_of 10 digits) i e;
        read = λ ts. ap (λ o. or_bad_form o >>= from_one ts) e ∙ ap (λ (b : Bool). if b then Ok (with_rest ts i) else Err BadForm) some;
      },
    )
    by_first i e false some = inr (λ ts. ap (λ o. or_bad_form o >>= from_one ts) e ∙ ap (λ (b : Bool). if b then Ok (with_rest ts i) else Err BadForm) some)

    by_value : (o : Option ℕ) → at_most n (number_of 10 digits) ≡ o → ((i : ℕ) × IsVertex n digits i) ⊎ NoVertex n digits
    by_value None e = inr (λ ts. ap (λ o. or_bad_form o >>= from_one ts) e)
    by_value (Some i) e = by_first i e (nat_le 1 i) refl

-- what is read as a number of a vertex
vertex-read : (n : ℕ) (ts : List Token) → (vertex_number n ts ≡ Err BadForm) ⊎ ((i : ℕ) × (rest : List Token) × (vertex_number n ts ≡ Ok (i, rest)) × (1 ≤ i) × (i ≤ n))
unfolding vertex_number
vertex-read n [] = inl refl
vertex-read n (number d ∷ ts) = elim (vertex-number n d) [
  | inl it ↦ inr (it.0, ts, it.1.read ts, it.1.some, it.1.few)
  | inr none ↦ inl (none ts)
]
vertex-read n (t ∷ ts) = inl refl

-- digits that say a number
vertex-digits : (n i : ℕ) → n ≤ most_pattern_vertices → i ≤ n → IsNumber n (decimal i) i
vertex-digits n i small few =
    let short : i < 9 = omega (arith, small, few) in
    ap (at_most n) (ten_digits-decimal i (lt_trans short (lit< tt))) ∙ ap (λ (b : Bool). if b then Some i else None) (le-leb i n few)

-- ---- pairs

-- a number that no edge joins with the other yet
record Partner (n : ℕ) (edges : List PatternEdge) (a b : ℕ) : Type 0 where
  some : 1 ≤ b
  few : b ≤ n
  new : is_new_pair edges a b ≡ true

abbrev NoPartner : ℕ → List PatternEdge → ℕ → Type 0
NoPartner n edges a = (b : ℕ) → 1 ≤ b → b ≤ n → is_new_pair edges a b ≡ false

find-partner : (n : ℕ) (edges : List PatternEdge) (a : ℕ) → ((b : ℕ) × Partner n edges a b) ⊎ NoPartner n edges a
find-partner n edges a = elim (find_up_to (λ b. is_or_not (is_new_pair edges a b)) n) [
  | inl it ↦ inl (it.0, record { some = it.1; few = it.2; new = it.3 })
  | inr none ↦ inr none
]
  where
    is_or_not : (k : Bool) → (k ≡ true) ⊎ (k ≡ false)
    is_or_not true = inl refl
    is_or_not false = inr refl

record FreePair (n : ℕ) (edges : List PatternEdge) : Type 0 where
  a : ℕ
  b : ℕ
  some : 1 ≤ a
  few : a ≤ n
  partner : Partner n edges a b

abbrev NoFreePair : ℕ → List PatternEdge → Type 0
NoFreePair n edges = (a : ℕ) → 1 ≤ a → a ≤ n → NoPartner n edges a

find-pair : (n : ℕ) (edges : List PatternEdge) → FreePair n edges ⊎ NoFreePair n edges
find-pair n edges = elim (find_up_to (find-partner n edges) n) [
  | inl it ↦ inl (record { a = it.0; b = it.3.0; some = it.1; few = it.2; partner = it.3.1 })
  | inr none ↦ inr none
]

-- one more edge among those so far
record PairItem (n : ℕ) (edges : List PatternEdge) (us : List Token) (names : Names) (later : List PatternEdge) (after : Names) : Type 0 where
  edge : PatternEdge
  is : with_edge edge edges ≡ later
  derived : DerivesPair n edges us names edge after

abbrev pair_rule : ℕ → List PatternEdge → Rule (List PatternEdge)
pair_rule n edges = plain (pair_after n edges) (PairItem n edges)

abbrev edge_of : ℕ → ℕ → ℕ → PatternEdge
edge_of a b l = record { low = min a b; high = max a b; label = l }

-- what is left to read after the first number, and after both
abbrev after_both : List PatternEdge → Names → (ℕ × ℕ) × List Token → ReadResult (List PatternEdge)
after_both edges names p = pair_label p.1 names >>= λ l. Ok (with_edge (record { low = p.0.0; high = p.0.1; label = l.0 }) edges, l.1, l.2)

abbrev numbers : ℕ → ℕ → List Token → (ℕ × ℕ) × List Token
numbers a b ts = ((min a b, max a b), ts)

abbrev if_new : List PatternEdge → ℕ → ℕ × List Token → Result ((ℕ × ℕ) × List Token) ConditionKind
if_new edges a b = if is_new_pair edges a b.0 then Ok (numbers a b.0 b.1) else Err BadForm

abbrev after_one : ℕ → List PatternEdge → Names → ℕ × List Token → ReadResult (List PatternEdge)
after_one n edges names a = vertex_number n a.1 >>= if_new edges a.0 >>= after_both edges names

pair-is : (n : ℕ) (edges : List PatternEdge) (ts : List Token) (names : Names) → pair_after n edges ts names ≡ (vertex_number n ts >>= (λ a. vertex_number n a.1 >>= if_new edges a.0) >>= after_both edges names)
unfolding pair_after pair_numbers
pair-is n edges ts names = refl

pair-lost : (n : ℕ) (edges : List PatternEdge) (ts : List Token) (names : Names) → vertex_number n ts ≡ Err BadForm → pair_after n edges ts names ≡ Err BadForm
pair-lost n edges ts names lost = pair-is n edges ts names ∙ ap (λ r. r >>= (λ a. vertex_number n a.1 >>= if_new edges a.0) >>= after_both edges names) lost

pair-one : (n : ℕ) (edges : List PatternEdge) (ts rest : List Token) (names : Names) (a : ℕ) → vertex_number n ts ≡ Ok (a, rest) → pair_after n edges ts names ≡ (vertex_number n rest >>= if_new edges a >>= after_both edges names)
pair-one n edges ts rest names a read = pair-is n edges ts names ∙ ap (λ r. r >>= (λ a. vertex_number n a.1 >>= if_new edges a.0) >>= after_both edges names) read

pair-two : (n : ℕ) (edges : List PatternEdge) (ts rest left : List Token) (names : Names) (a b : ℕ) (k : Bool) → vertex_number n ts ≡ Ok (a, rest) → vertex_number n rest ≡ Ok (b, left) → is_new_pair edges a b ≡ k
    → pair_after n edges ts names ≡ ((if k then Ok (numbers a b left) else Err BadForm) >>= after_both edges names)
pair-two n edges ts rest left names a b k read read_too new =
    pair-one n edges ts rest names a read
    ∙ ap (λ r. r >>= if_new edges a >>= after_both edges names) read_too
    ∙ ap (λ (k : Bool). (if k then Ok (numbers a b left) else Err BadForm) >>= after_both edges names) new

-- a number without a partner is not read
no_partner-lost : (n : ℕ) (edges : List PatternEdge) (a : ℕ) → NoPartner n edges a → (ts rest : List Token) (names : Names) → vertex_number n ts ≡ Ok (a, rest) → pair_after n edges ts names ≡ Err BadForm
no_partner-lost n edges a none ts rest names read = elim (vertex-read n rest) [
  | inl lost ↦ pair-one n edges ts rest names a read ∙ ap (λ r. r >>= if_new edges a >>= after_both edges names) lost
  | inr it ↦ pair-two n edges ts rest it.1 names a it.0 false read it.2 (none it.0 it.3 it.4)
]

no_pair-blocked : (n : ℕ) (edges : List PatternEdge) → NoFreePair n edges → Blocked (pair_rule n edges)
no_pair-blocked n edges none ts names = elim (vertex-read n ts) [
  | inl lost ↦ pair-lost n edges ts names lost
  | inr it ↦ no_partner-lost n edges it.0 (none it.0 it.3 it.4) ts it.1 names it.2
]

-- [ label ]
data DerivesPairLabel : List Token → Names → ℕ → Names → Type 0 where
  bare : (names : Names) → DerivesPairLabel [] names 0 names
  labelled : (w : List ℕ) (names : Names) (l : ℕ) (after : Names) → IsLabel w names l after → DerivesPairLabel (word w ∷ []) names l after

abbrev pair_label_rule : Rule ℕ
pair_label_rule = plain pair_label DerivesPairLabel

begins-alike : {A : Type 0} (kind : Token → Option A) (a b : List Token) (k : Bool) → first_token a ≡ first_token b → begins_with kind b ≡ k → begins_with kind a ≡ k
begins-alike kind [] [] k same e = e
begins-alike kind [] (v ∷ b) k same e = absurd (let lost : None ≡ Some v = same in cc)
begins-alike kind (u ∷ a) [] k same e = absurd (let lost : Some u ≡ None = same in cc)
begins-alike kind (u ∷ a) (v ∷ b) k same e = subst (λ w. begins_with kind (w ∷ a) ≡ k) (sym (some_same same)) e

pair_label-outcome : (ts : List Token) (names : Names) → Outcome pair_label_rule ts names
unfolding pair_label
pair_label-outcome ts names = by_test (begins_with bytes_in ts) refl
  where
    embed : (us : List Token) (l : ℕ) (after : Names) → Labelled us names l after → DerivesPairLabel us names l after
    embed us l after d = subst (λ ws. DerivesPairLabel ws names l after) (sym d.is) (labelled d.text names l after d.labels)

    by_test : (b : Bool) → begins_with bytes_in ts ≡ b → Outcome pair_label_rule ts names
    by_test true e = prefixed label_rule pair_label_rule [] names names (λ l. l) embed embed ts
        (λ us same. ap (λ b. cond b (label us names) (Ok (0, us, names))) (begins-alike bytes_in us ts true same e) ∙ sym (then_same (label us names))) (label-outcome ts names)
    by_test false e = reads (record {
      used = [];
      rest = ts;
      value = 0;
      after = names;
      split = refl;
      derived = bare names;
      whatever_follows = λ later same. ap (λ b. cond b (label later names) (Ok (0, later, names))) (begins-alike bytes_in later ts false same e);
    })

-- two numbers and what stands after them
pair-derives : (n : ℕ) (edges : List PatternEdge) (one other : List ℕ) (a b : ℕ) → AreEnds n edges one other a b → (us : List Token) (names : Names) (l : ℕ) (after : Names) → DerivesPairLabel us names l after
    → DerivesPair n edges (number one ∷ number other ∷ us) names (edge_of a b l) after
pair-derives n edges one other a b two _ _ _ _ (bare names) = rule.bare_pair one other a b names two
pair-derives n edges one other a b two _ _ _ _ (labelled w names l after is) = rule.labelled_pair one other a b w names l after two is

module _ (n : ℕ) (small : n ≤ most_pattern_vertices) (edges : List PatternEdge) (names : Names) where
  ends-of : (one : List ℕ) (a b : ℕ) → IsNumber n one a → 1 ≤ a → Partner n edges a b → AreEnds n edges one (decimal b) a b
  ends-of one a b says some p = record { one_says = says; other_says = vertex-digits n b small p.few; some_first = some; some_second = p.some; new = p.new }

  second-more : (one : List ℕ) (a b : ℕ) → IsNumber n one a → 1 ≤ a → Partner n edges a b → Completable (PairItem n edges) (number one ∷ []) names
  second-more one a b says some p = record {
    more = number (decimal b) ∷ [];
    value = with_edge (edge_of a b 0) edges;
    after = names;
    derived = record { edge = edge_of a b 0; is = refl; derived = rule.bare_pair one (decimal b) a b names (ends-of one a b says some p) };
  }

  pair-more : FreePair n edges → Completable (PairItem n edges) [] names
  pair-more p =
      let it = second-more (decimal p.a) p.a p.b (vertex-digits n p.a small p.few) p.some p.partner in
      record { more = number (decimal p.a) ∷ it.more; value = it.value; after = it.after; derived = it.derived }

  -- after two numbers
  both-outcome : (one other : List ℕ) (a b : ℕ) → IsVertex n one a → IsVertex n other b → is_new_pair edges a b ≡ true → (ts : List Token) → Outcome (pair_rule n edges) (number one ∷ number other ∷ ts) names
  both-outcome one other a b first second new ts =
      prefixed pair_label_rule (pair_rule n edges) (number one ∷ number other ∷ []) names names (λ l. with_edge (edge_of a b l) edges) embed embed ts
      (λ us same. pair-two n edges (number one ∷ number other ∷ us) (number other ∷ us) us names a b true (first.read (number other ∷ us)) (second.read us) new) (pair_label-outcome ts names)
    where
      embed : (us : List Token) (l : ℕ) (after : Names) → DerivesPairLabel us names l after → PairItem n edges (number one ∷ number other ∷ us) names (with_edge (edge_of a b l) edges) after
      embed us l after d = record {
        edge = edge_of a b l;
        is = refl;
        derived = pair-derives n edges one other a b (record { one_says = first.says; other_says = second.says; some_first = first.some; some_second = second.some; new = new }) us names l after d;
      }

  -- after one number, with a partner for it
  one-outcome : (one : List ℕ) (a : ℕ) → IsVertex n one a → (b : ℕ) → Partner n edges a b → (ts : List Token) → Outcome (pair_rule n edges) (number one ∷ ts) names
  unfolding vertex_number
  one-outcome one a first b p [] = fails (ends (record {
    refused = pair-one n edges (number one ∷ []) [] names a (first.read []);
    completable = second-more one a b first.says first.some p;
  }))
  one-outcome one a first b p (number other ∷ ts) = by_number (vertex-number n other)
    where
      completable : Completable (PairItem n edges) (number one ∷ []) names
      completable = second-more one a b first.says first.some p

      by_new : (c : ℕ) → IsVertex n other c → (k : Bool) → is_new_pair edges a c ≡ k → Outcome (pair_rule n edges) (number one ∷ number other ∷ ts) names
      by_new c second true new = both-outcome one other a c first second new ts
      by_new c second false new = offends_second (pair_rule n edges) (number one) (number other) ts names
          (λ more. pair-two n edges (number one ∷ number other ∷ more) (number other ∷ more) more names a c false (first.read (number other ∷ more)) (second.read more) new) completable

      by_number : ((c : ℕ) × IsVertex n other c) ⊎ NoVertex n other → Outcome (pair_rule n edges) (number one ∷ number other ∷ ts) names
      by_number (inl it) = by_new it.0 it.1 (is_new_pair edges a it.0) refl
      by_number (inr none) = offends_second (pair_rule n edges) (number one) (number other) ts names
          (λ more. pair-one n edges (number one ∷ number other ∷ more) (number other ∷ more) names a (first.read (number other ∷ more)) ∙ ap (λ r. r >>= if_new edges a >>= after_both edges names) (none more)) completable
  one-outcome one a first b p (t ∷ ts) = offends_second (pair_rule n edges) (number one) t ts names (λ more. pair-one n edges (number one ∷ t ∷ more) (t ∷ more) names a (first.read (t ∷ more))) (second-more one a b first.says first.some p)

  free-outcome : FreePair n edges → (ts : List Token) → Outcome (pair_rule n edges) ts names
  unfolding vertex_number
  free-outcome free [] = fails (ends (record { refused = pair-lost n edges [] names refl; completable = pair-more free }))
  free-outcome free (number one ∷ ts) = by_number (vertex-number n one)
    where
      by_partner : (a : ℕ) → IsVertex n one a → ((b : ℕ) × Partner n edges a b) ⊎ NoPartner n edges a → Outcome (pair_rule n edges) (number one ∷ ts) names
      by_partner a first (inl it) = one-outcome one a first it.0 it.1 ts
      by_partner a first (inr none) = offends_first (pair_rule n edges) (number one) ts names (λ more. no_partner-lost n edges a none (number one ∷ more) more names (first.read more)) (pair-more free)

      by_number : ((a : ℕ) × IsVertex n one a) ⊎ NoVertex n one → Outcome (pair_rule n edges) (number one ∷ ts) names
      by_number (inl it) = by_partner it.0 it.1 (find-partner n edges it.0)
      by_number (inr none) = offends_first (pair_rule n edges) (number one) ts names (λ more. pair-lost n edges (number one ∷ more) names (none more)) (pair-more free)
  free-outcome free (t ∷ ts) = offends_first (pair_rule n edges) t ts names (λ more. pair-lost n edges (t ∷ more) names refl) (pair-more free)

  pair-outcome : (ts : List Token) → Blocked (pair_rule n edges) ⊎ Outcome (pair_rule n edges) ts names
  pair-outcome ts = elim (find-pair n edges) [
    | inl free ↦ inr (free-outcome free ts)
    | inr none ↦ inl (no_pair-blocked n edges none)
  ]

-- pair { "," pair }
abbrev pairs_left : ℕ → List PatternEdge × List Token × Names → ReadResult (List PatternEdge)
pairs_left n e = more_items comma (pair_after n) (length e.1) e.0 e.1 e.2

abbrev some_pairs : ℕ → Production (List PatternEdge)
some_pairs n ts names = pair_after n [] ts names >>= pairs_left n

abbrev some_pairs_rule : ℕ → Rule (List PatternEdge)
some_pairs_rule n = plain (some_pairs n) (DerivesPairs n)

pair-first : (n : ℕ) (us : List Token) (names : Names) (edges : List PatternEdge) (after : Names) → PairItem n [] us names edges after → DerivesPairs n us names edges after
pair-first n us names edges after d = subst (λ s. DerivesPairs n us names s after) d.is (rule.one_pair us names d.edge after d.derived)

pair-next : (n : ℕ) (us vs : List Token) (names : Names) (edges : List PatternEdge) (mid : Names) (later : List PatternEdge) (after : Names) → DerivesPairs n us names edges mid → PairItem n edges vs mid later after
    → DerivesPairs n (us ++ comma ∷ vs) names later after
pair-next n us vs names edges mid later after d e = subst (λ s. DerivesPairs n (us ++ comma ∷ vs) names s after) e.is (rule.more_pairs us vs names edges mid e.edge after d e.derived)

pair-items : (n : ℕ) → n ≤ most_pattern_vertices → Items comma refl (pair_rule n []) (pair_rule n) (some_pairs_rule n)
pair-items n small = record {
  is = λ ts names. refl;
  one = pair-first n;
  one_deeper = pair-first n;
  join = pair-next n;
  join_deeper = pair-next n;
  each = λ us names edges mid d ts. pair-outcome n small edges mid ts;
}

-- [ pair { "," pair } ]
abbrev pub DerivesEdges : ℕ → Derivation (List PatternEdge)
DerivesEdges n us names edges after = ((us ≡ []) × (edges ≡ []) × (after ≡ names)) ⊎ DerivesPairs n us names edges after

abbrev edges_rule : ℕ → Rule (List PatternEdge)
edges_rule n = plain (pairs n) (DerivesEdges n)

edges-more : (n : ℕ) (names : Names) → Completable (DerivesEdges n) [] names
edges-more n names = record { more = []; value = []; after = names; derived = inl (refl, refl, refl) }

abbrev no_edges : List Token → Names → List PatternEdge × List Token × Names
no_edges ts names = ([], ts, names)

some-outcome : (n : ℕ) → n ≤ most_pattern_vertices → (t : Token) (ts : List Token) (names : Names) → begins_with digits_in (t ∷ ts) ≡ true → Outcome (edges_rule n) (t ∷ ts) names
unfolding pairs
some-outcome n small t ts names begins = by_pair (pair-outcome n small [] names (t ∷ ts))
  where
    by_pair : Blocked (pair_rule n []) ⊎ Outcome (pair_rule n []) (t ∷ ts) names → Outcome (edges_rule n) (t ∷ ts) names
    by_pair (inl blocked) = offends_first (edges_rule n) t ts names (λ more. pairs-fail (t ∷ more) names n BadForm begins (blocked (t ∷ more) names)) (edges-more n names)
    by_pair (inr it) = prefixed (some_pairs_rule n) (edges_rule n) [] names names (λ e. e) (λ us e after d. inr d) (λ us e after d. inr d) (t ∷ ts)
        (λ us same. ap (λ b. cond b (some_pairs n us names) (Ok (no_edges us names))) (begins-alike digits_in us (t ∷ ts) true same begins) ∙ sym (then_same (some_pairs n us names)))
        (listed comma (pair_rule n []) (pair_rule n) (some_pairs_rule n) (in_turns comma refl (pair_rule n []) (pair_rule n) (some_pairs_rule n) (pair-items n small)) names (t ∷ ts) it)

no-outcome : (n : ℕ) (ts : List Token) (names : Names) → begins_with digits_in ts ≡ false → Outcome (edges_rule n) ts names
no-outcome n ts names begins = reads (record {
  used = [];
  rest = ts;
  value = [];
  after = names;
  split = refl;
  derived = inl (refl, refl, refl);
  whatever_follows = λ later same. pairs-none later names n (begins-alike digits_in later ts false same begins);
})

edges-outcome : (n : ℕ) → n ≤ most_pattern_vertices → (ts : List Token) (names : Names) → Outcome (edges_rule n) ts names
edges-outcome n small [] names = no-outcome n [] names refl
edges-outcome n small (t ∷ ts) names = by_test (begins_with digits_in (t ∷ ts)) refl
  where
    by_test : (b : Bool) → begins_with digits_in (t ∷ ts) ≡ b → Outcome (edges_rule n) (t ∷ ts) names
    by_test true e = some-outcome n small t ts names e
    by_test false e = no-outcome n (t ∷ ts) names e

-- ---- shapes

abbrev pub shape_of : List ℕ → List PatternEdge → Pattern
shape_of labels edges = record { labels = labels; edges = edges }

-- [ pair { "," pair } ] ")"
pub record EdgesClosed (labels : List ℕ) (us : List Token) (names : Names) (s : Pattern) (after : Names) : Type 0 where
  pub first : List Token
  pub edges : List PatternEdge
  pub is : us ≡ first ++ closing ∷ []
  pub said : s ≡ shape_of labels edges
  pub derived : DerivesEdges (length labels) first names edges after

abbrev edges_closed : List ℕ → Production Pattern
edges_closed labels ts names = pairs (length labels) ts names >>= λ e. tokens_past closing e.1 >>= λ end. Ok (record { labels = labels; edges = e.0 }, end, e.2)

closed-joins : (labels : List ℕ) → Joins (DerivesEdges (length labels)) (λ e. IsToken closing (shape_of labels e)) (EdgesClosed labels)
closed-joins labels = record {
  join = λ us vs names e mid s after d close. record {
    first = us;
    edges = e;
    is = ap (λ ws. us ++ ws) close.0;
    said = close.1;
    derived = subst (λ ns. DerivesEdges (length labels) us names e ns) (sym close.2) d;
  };
}

closed-outcome : (labels : List ℕ) → length labels ≤ most_pattern_vertices → (ts : List Token) (names : Names) → Outcome (plain (edges_closed labels) (EdgesClosed labels)) ts names
closed-outcome labels small ts names =
    sequence (edges_rule (length labels)) (λ e. pass closing (shape_of labels e)) (plain (edges_closed labels) (EdgesClosed labels)) (λ ts names. refl) (closed-joins labels) (closed-joins labels) (closed-joins labels)
    (λ us names e mid d. passes-more closing (shape_of labels e) mid) (λ us names e mid d. passes-more closing (shape_of labels e) mid) ts names (edges-outcome (length labels) small ts names) (λ r. passes closing (shape_of labels r.value) r.rest r.after)

closed-more : (labels : List ℕ) (names : Names) → Completable (EdgesClosed labels) [] names
closed-more labels names = record { more = closing ∷ []; value = shape_of labels []; after = names; derived = record { first = []; edges = []; is = refl; said = refl; derived = inl (refl, refl, refl) } }

abbrev edges_after : List ℕ → Production Pattern
edges_after labels ts names = tokens_past semicolon ts >>= λ middle. edges_closed labels middle names

-- label { "," label } ";" [ pair { "," pair } ] ")"
pub record Inside (us : List Token) (names : Names) (s : Pattern) (after : Names) : Type 0 where
  pub first : List Token
  pub labels : List ℕ
  pub mid : Names
  pub labelled : DerivesLabels first names labels mid
  pub second : List Token
  pub is : us ≡ first ++ semicolon ∷ second
  pub closed : EdgesClosed labels second mid s after

abbrev inside : Production Pattern
inside ts names = pattern_labels ts names >>= λ l. edges_after l.0 l.1 l.2

inside-joins : Joins DerivesLabels (λ labels. TokenThen semicolon (EdgesClosed labels)) Inside
inside-joins = record {
  join = λ us vs names labels mid s after d others. record {
    first = us;
    labels = labels;
    mid = mid;
    labelled = d;
    second = others.0;
    is = ap (λ ws. us ++ ws) others.1;
    closed = others.2;
  };
}

inside-outcome : (ts : List Token) (names : Names) → Outcome (plain inside Inside) ts names
inside-outcome ts names =
    sequence labels_rule (λ labels. plain (edges_after labels) (TokenThen semicolon (EdgesClosed labels))) (plain inside Inside) (λ ts names. refl) inside-joins inside-joins inside-joins
    (λ us names labels mid d. then-more semicolon (EdgesClosed labels) mid (closed-more labels mid)) (λ us names labels mid d. then-more semicolon (EdgesClosed labels) mid (closed-more labels mid)) ts names (labels-outcome ts names)
    (λ r. then_first semicolon (edges_closed r.value) (EdgesClosed r.value) (closed-more r.value) (closed-outcome r.value (labels-few r.used names r.value r.after r.derived)) r.rest r.after)

inside-more : (names : Names) → Completable Inside [] names
inside-more names =
    let l = label-more names in
    let labels = l.value ∷ [] in
    let others = closed-more labels l.after in
    record {
      more = l.more ++ semicolon ∷ others.more;
      value = others.value;
      after = others.after;
      derived = inside-joins.join l.more (semicolon ∷ others.more) names labels l.after others.value others.after
          (subst (λ ws. DerivesLabels ws names labels l.after) (sym l.derived.is) (rule.one_label l.derived.text names l.value l.after l.derived.labels)) (others.more, refl, others.derived);
    }

abbrev pub DerivesPattern : Derivation Pattern
DerivesPattern = TokenThen opening Inside

pub pattern-outcome : (ts : List Token) (names : Names) → Outcome (plain pattern_of DerivesPattern) ts names
unfolding pattern_of
pattern-outcome ts names = then_first opening inside Inside inside-more inside-outcome ts names

edgeless : (labels : List ℕ) (first us : List Token) (names mid : Names) (edges : List PatternEdge) (after : Names) → DerivesLabels first names labels mid → DerivesEdges (length labels) us mid edges after
    → DerivesShape (word (codes "shape") ∷ opening ∷ (first ++ semicolon ∷ (us ++ closing ∷ []))) names (shape_of labels edges) after
edgeless labels first us names mid edges after d (inl none) =
    subst (λ ws. DerivesShape (word (codes "shape") ∷ opening ∷ (first ++ semicolon ∷ (ws ++ closing ∷ []))) names (shape_of labels edges) after) (sym none.0)
    (subst (λ es. DerivesShape (word (codes "shape") ∷ opening ∷ (first ++ semicolon ∷ closing ∷ [])) names (shape_of labels es) after) (sym none.1)
    (rule.edgeless first names labels after (subst (λ ns. DerivesLabels first names labels ns) (sym none.2) d)))
edgeless labels first us names mid edges after d (inr some) = rule.with_edges first us names labels mid edges after d some

pub pattern-derives : (us : List Token) (names : Names) (s : Pattern) (after : Names) → DerivesPattern us names s after → DerivesShape (word (codes "shape") ∷ us) names s after
pattern-derives us names s after (vs, is, it) =
    subst (λ ws. DerivesShape (word (codes "shape") ∷ ws) names s after) (sym (is ∙ ap (λ ws. opening ∷ ws) (it.is ∙ ap (λ ws. it.first ++ semicolon ∷ ws) it.closed.is)))
    (subst (λ s. DerivesShape (word (codes "shape") ∷ opening ∷ (it.first ++ semicolon ∷ (it.closed.first ++ closing ∷ []))) names s after) (sym it.closed.said)
    (edgeless it.labels it.first it.closed.first names it.mid it.closed.edges after it.labelled it.closed.derived))
