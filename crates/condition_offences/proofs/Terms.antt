-- What comes of reading terms, sums and comparisons.
use Rattle.std.proofs.Common.{◌≡◌, ℕ, ◌+◌, ◌-◌, inl, inr, Bool, true, false, if◌then◌else◌, List, [], ◌∷◌, ◌++◌, length, Option, None, Some, Ok, codes, refl, sym, ap, subst, ◌∙◌, arith, length-append}
use Rattle.std.specs.Str.{bytes_eq}
use Rattle.std.proofs.lemmas.Slice.Eq.{bytes_eq-Decides}
use Rattle.line_fields.specs.meaning.Fields.{number_of}
use Rattle.line_fields.specs.meaning.Names.{Names}
use Rattle.conditions.specs.declared.condition.Cond.{Cond}
use Rattle.conditions.specs.declared.condition.Cond.TheOpen as form
use Rattle.conditions.specs.declared.condition.Cond.TheViews.{roll-Cond}
use Rattle.conditions.specs.declared.condition.Factor.{Factor}
use Rattle.conditions.specs.declared.condition.Op.{Op}
use Rattle.conditions.specs.declared.condition.Op.TheVariants.{AtMost}
use Rattle.conditions.specs.declared.condition.Term.{Term}
use Rattle.conditions.specs.declared.condition.Term.TheVariants as term
use Rattle.conditions.specs.meaning.Written.{most_bound, most_factors, most_times}
use Rattle.condition_grammar.specs.meaning.Derivations as rule
use Rattle.condition_grammar.specs.meaning.Derivations.{DerivesSum, DerivesTerm, DerivesUse, IsLabel, IsNumber}
use Rattle.condition_grammar.specs.meaning.Grammar.{Production, ReadResult, ◌>>=◌, at_most, bound, comparison, factor, factor_by, label, label_in_parentheses, more_uses, named_term, operator, optional_label, or_bad_form, sum_of, term_after_name, term_name, term_of, tokens_after, tokens_past, two_labels, use_of}
use Rattle.condition_grammar.specs.meaning.Token.{Token, digits_in, word, number, opening, closing, comma, plus, times, op}
use Rattle.condition_grammar.proofs.Chaining.{more_uses-fail, more_uses-more, more_uses-stop}
use Rattle.condition_grammar.proofs.Deriving.{after_is}
use Rattle.condition_offences.proofs.Outcomes.{Completable, Joins, Listing, Outcome, Rule, ends, fails, listed, missed-alike, plain, prefixed, reads, sequence}
use Rattle.condition_offences.proofs.Tokens.{Labelled, IsToken, with_rest, label-more, label-outcome, label_rule, limited-err, limited-ok, limited-outcome, limited-within, limited_rule, offends_first, offends_second, pass, passes, passes-more, no_kind-alike, then_first, then-more, then_same, then_then, TokenThen}

-- ---- labels in parentheses

-- [ "(" label ")" ]
data DerivesOptional : List Token → Names → Option ℕ → Names → Type 0 where
  bare : (names : Names) → DerivesOptional [] names None names
  labelled : (w : List ℕ) (names : Names) (l : ℕ) (after : Names) → IsLabel w names l after → DerivesOptional (opening ∷ word w ∷ closing ∷ []) names (Some l) after

-- label ")"
record Closed (us : List Token) (names : Names) (l : Option ℕ) (after : Names) : Type 0 where
  text : List ℕ
  number : ℕ
  is : us ≡ word text ∷ closing ∷ []
  same : l ≡ Some number
  labels : IsLabel text names number after

abbrev closed_label : Production (Option ℕ)
closed_label ts names = label ts names >>= λ l. tokens_past closing l.1 >>= λ end. Ok (Some l.0, end, l.2)

closed-joins : Joins Labelled (λ l. IsToken closing (Some l)) Closed
closed-joins = record {
  join = λ us vs names l mid m after one two. record {
    text = one.text;
    number = l;
    is = ap (λ ws. ws ++ vs) one.is ∙ ap (λ ws. word one.text ∷ ws) two.0;
    same = two.1;
    labels = subst (λ ns. IsLabel one.text names l ns) (sym two.2) one.labels;
  };
}

closed-outcome : (ts : List Token) (names : Names) → Outcome (plain closed_label Closed) ts names
closed-outcome ts names = sequence label_rule (λ l. pass closing (Some l)) (plain closed_label Closed) (λ ts names. refl) closed-joins closed-joins closed-joins
    (λ us names l mid one. passes-more closing (Some l) mid) (λ us names l mid one. passes-more closing (Some l) mid) ts names (label-outcome ts names) (λ r. passes closing (Some r.value) r.rest r.after)

closed-optional : (us : List Token) (names : Names) (l : Option ℕ) (after : Names) → Closed us names l after → DerivesOptional (opening ∷ us) names l after
closed-optional us names l after d =
    subst (λ ws. DerivesOptional (opening ∷ ws) names l after) (sym d.is) (subst (λ m. DerivesOptional (opening ∷ word d.text ∷ closing ∷ []) names m after) (sym d.same) (labelled d.text names d.number after d.labels))

optional-outcome : (ts : List Token) (names : Names) → Outcome (plain optional_label DerivesOptional) ts names
unfolding optional_label
optional-outcome ts names = by_next (tokens_after opening ts) refl
  where
    by_next : (o : Option (List Token)) → tokens_after opening ts ≡ o → Outcome (plain optional_label DerivesOptional) ts names
    by_next None e = reads (record {
      used = [];
      rest = ts;
      value = None;
      after = names;
      split = refl;
      derived = bare names;
      whatever_follows = λ later same. ap (label_in_parentheses later names) (missed-alike opening later ts same e);
    })
    by_next (Some rest) e =
        let R = plain optional_label DerivesOptional in
        subst (λ us. Outcome R us names) (sym (after_is opening ts rest e))
        (prefixed (plain closed_label Closed) R (opening ∷ []) names names (λ l. l) (λ us l after d. closed-optional us names l after d) (λ us l after d. closed-optional us names l after d) rest
        (λ us same. sym (then_same (closed_label us names))) (closed-outcome rest names))

-- label ")" after another label
record Second (one : ℕ) (us : List Token) (names : Names) (l : ℕ × ℕ) (after : Names) : Type 0 where
  text : List ℕ
  is : us ≡ word text ∷ closing ∷ []
  same : l.0 ≡ one
  labels : IsLabel text names l.1 after

abbrev second_label : ℕ → Production (ℕ × ℕ)
second_label one ts names = label ts names >>= λ m. tokens_past closing m.1 >>= λ end. Ok ((one, m.0), end, m.2)

abbrev Pair : Type 0
Pair = ℕ × ℕ

second-joins : (one : ℕ) → Joins {B = Pair} Labelled (λ m. IsToken closing (one, m)) (Second one)
second-joins one = record {
  join = λ us vs names l mid m after first close. record {
    text = first.text;
    is = ap (λ ws. ws ++ vs) first.is ∙ ap (λ ws. word first.text ∷ ws) close.0;
    same = ap (λ (p : Pair). p.0) close.1;
    labels = subst (λ (p : Pair). IsLabel first.text names p.1 after) (sym close.1) (subst (λ ns. IsLabel first.text names l ns) (sym close.2) first.labels);
  };
}

abbrev pair_of : ℕ → ℕ → Pair
pair_of one m = (one, m)

second-outcome : (one : ℕ) (ts : List Token) (names : Names) → Outcome (plain (second_label one) (Second one)) ts names
second-outcome one ts names = sequence label_rule (λ m. pass closing (pair_of one m)) (plain (second_label one) (Second one)) (λ ts names. refl) (second-joins one) (second-joins one) (second-joins one)
    (λ us names m mid d. passes-more closing (pair_of one m) mid) (λ us names m mid d. passes-more closing (pair_of one m) mid) ts names (label-outcome ts names) (λ r. passes closing (pair_of one r.value) r.rest r.after)

second-more : (one : ℕ) (names : Names) → Completable (Second one) [] names
second-more one names =
    let it = label-more names in
    record {
      more = it.more ++ closing ∷ [];
      value = pair_of one it.value;
      after = it.after;
      derived = record { text = it.derived.text; is = ap (λ us. us ++ closing ∷ []) it.derived.is; same = refl; labels = it.derived.labels };
    }

-- label "," label ")"
record Two (us : List Token) (names : Names) (l : ℕ × ℕ) (after : Names) : Type 0 where
  one : List ℕ
  other : List ℕ
  mid : Names
  is : us ≡ word one ∷ comma ∷ word other ∷ closing ∷ []
  labels : IsLabel one names l.0 mid
  labels_too : IsLabel other mid l.1 after

abbrev comma_label : ℕ → Production Pair
comma_label one ts names = tokens_past comma ts >>= λ middle. second_label one middle names

abbrev labels_inside : Production Pair
labels_inside ts names = label ts names >>= λ l. comma_label l.0 l.1 l.2

two-joins : Joins {B = Pair} Labelled (λ l. TokenThen comma (Second l)) Two
two-joins = record {
  join = λ us vs names l mid p after first others. record {
    one = first.text;
    other = others.2.text;
    mid = mid;
    is = ap (λ ws. ws ++ vs) first.is ∙ ap (λ ws. word first.text ∷ ws) (others.1 ∙ ap (λ ws. comma ∷ ws) others.2.is);
    labels = subst (λ m. IsLabel first.text names m mid) (sym others.2.same) first.labels;
    labels_too = others.2.labels;
  };
}

inside-outcome : (ts : List Token) (names : Names) → Outcome (plain labels_inside Two) ts names
inside-outcome ts names = sequence label_rule (λ l. plain (comma_label l) (TokenThen comma (Second l))) (plain labels_inside Two) (λ ts names. refl) two-joins two-joins two-joins
    (λ us names l mid d. then-more comma (Second l) mid (second-more l mid)) (λ us names l mid d. then-more comma (Second l) mid (second-more l mid)) ts names (label-outcome ts names)
    (λ r. then_first comma (second_label r.value) (Second r.value) (second-more r.value) (second-outcome r.value) r.rest r.after)

inside-more : (names : Names) → Completable Two [] names
inside-more names =
    let first = label-more names in
    let others = second-more first.value first.after in
    record {
      more = first.more ++ comma ∷ others.more;
      value = others.value;
      after = others.after;
      derived = two-joins.join first.more (comma ∷ others.more) names first.value first.after others.value others.after first.derived (others.more, refl, others.derived);
    }

-- ---- terms

abbrev term_rule : Rule Term
term_rule = plain term_of DerivesTerm

term-more : (names : Names) → Completable DerivesTerm [] names
term-more names = record { more = word (codes "kinds") ∷ []; value = term.Kinds; after = names; derived = rule.kinds names }

vertices-derive : (us : List Token) (names : Names) (l : Option ℕ) (after : Names) → DerivesOptional us names l after → DerivesTerm (word (codes "vertices") ∷ us) names (term.Vertices l) after
vertices-derive _ _ _ _ (bare names) = rule.vertices names
vertices-derive _ _ _ _ (labelled w names l after is) = rule.vertices_of w names l after is

edges-derive : (us : List Token) (names : Names) (l : Option ℕ) (after : Names) → DerivesOptional us names l after → DerivesTerm (word (codes "edges") ∷ us) names (term.Edges l) after
edges-derive _ _ _ _ (bare names) = rule.edges names
edges-derive _ _ _ _ (labelled w names l after is) = rule.edges_of w names l after is

joins-derive : (us : List Token) (names : Names) (l : ℕ × ℕ) (after : Names) → TokenThen opening Two us names l after → DerivesTerm (word (codes "joins") ∷ us) names (term.Joins l.0 l.1) after
joins-derive us names l after (vs, is, two) =
    subst (λ ws. DerivesTerm (word (codes "joins") ∷ ws) names (term.Joins l.0 l.1) after) (sym (is ∙ ap (λ ws. opening ∷ ws) two.is)) (rule.joins two.one two.other names l.0 two.mid l.1 after two.labels two.labels_too)

module _ (ts : List Token) (names : Names) where
  vertices-outcome : Outcome term_rule (word (codes "vertices") ∷ ts) names
  unfolding term_of named_term term_after_name
  vertices-outcome = prefixed (plain optional_label DerivesOptional) term_rule (word (codes "vertices") ∷ []) names names term.Vertices (λ us l after d. vertices-derive us names l after d) (λ us l after d. vertices-derive us names l after d) ts (λ us same. refl) (optional-outcome ts names)

  edges-outcome : Outcome term_rule (word (codes "edges") ∷ ts) names
  unfolding term_of named_term term_after_name
  edges-outcome = prefixed (plain optional_label DerivesOptional) term_rule (word (codes "edges") ∷ []) names names term.Edges (λ us l after d. edges-derive us names l after d) (λ us l after d. edges-derive us names l after d) ts (λ us same. refl) (optional-outcome ts names)

  joins-outcome : Outcome term_rule (word (codes "joins") ∷ ts) names
  unfolding term_of named_term term_after_name two_labels
  joins-outcome = prefixed (plain (λ ts names. tokens_past opening ts >>= λ start. labels_inside start names) (TokenThen opening Two)) term_rule (word (codes "joins") ∷ []) names names (λ l. term.Joins l.0 l.1)
      (λ us l after d. joins-derive us names l after d) (λ us l after d. joins-derive us names l after d) ts (λ us same. refl) (then_first opening labels_inside Two inside-more inside-outcome ts names)

  plain-term : (text : List ℕ) (t : Term) → DerivesTerm (word text ∷ []) names t names → ((later : List Token) → term_of (word text ∷ later) names ≡ Ok (t, later, names)) → Outcome term_rule (word text ∷ ts) names
  plain-term text t d is = reads (record { used = word text ∷ []; rest = ts; value = t; after = names; split = refl; derived = d; whatever_follows = λ later same. is later })

-- the first of these that is None makes the whole None
none_of : {A : Type 0} (b : Bool) (x : A) (o : Option A) → b ≡ false → o ≡ None → (if b then Some x else o) ≡ None
none_of b x o e lost = ap (λ b. if b then Some x else o) e ∙ lost

module _ (w : List ℕ) (ts : List Token) (names : Names) where
  -- the word is this name, or it isn't
  named : (text : List ℕ) → Outcome term_rule (word text ∷ ts) names → (bytes_eq w text ≡ false → Outcome term_rule (word w ∷ ts) names) → Outcome term_rule (word w ∷ ts) names
  named text this others = by_test (bytes_eq w text) refl
    where
      by_test : (b : Bool) → bytes_eq w text ≡ b → Outcome term_rule (word w ∷ ts) names
      by_test true e = subst (λ v. Outcome term_rule (word v ∷ ts) names) (sym ((bytes_eq-Decides w text).0 e)) this
      by_test false e = others e

  word-outcome : Outcome term_rule (word w ∷ ts) names
  unfolding term_of named_term term_after_name
  word-outcome =
      named (codes "vertices") (vertices-outcome ts names) λ e1.
      named (codes "edges") (edges-outcome ts names) λ e2.
      named (codes "joins") (joins-outcome ts names) λ e3.
      named (codes "kinds") (plain-term ts names (codes "kinds") term.Kinds (rule.kinds names) (λ later. refl)) λ e4.
      named (codes "degree") (plain-term ts names (codes "degree") term.Degree (rule.degree names) (λ later. refl)) λ e5.
      named (codes "missing") (plain-term ts names (codes "missing") term.Missing (rule.missing names) (λ later. refl)) λ e6.
      named (codes "least") (plain-term ts names (codes "least") term.Least (rule.least names) (λ later. refl)) λ e7.
      let lost : term_name w ≡ None = none_of _ _ _ e1 (none_of _ _ _ e2 (none_of _ _ _ e3 (none_of _ _ _ e4 (none_of _ _ _ e5 (none_of _ _ _ e6 (none_of _ _ _ e7 refl)))))) in
      offends_first term_rule (word w) ts names (λ more. ap (λ o. or_bad_form o >>= (λ n. Ok (with_rest more n)) >>= λ n. term_after_name n.0 n.1 names) lost) (term-more names)

term-outcome : (ts : List Token) (names : Names) → Outcome term_rule ts names
unfolding term_of named_term
term-outcome [] names = fails (ends (record { refused = refl; completable = term-more names }))
term-outcome (word w ∷ ts) names = word-outcome w ts names
term-outcome (t ∷ ts) names = offends_first term_rule t ts names (λ more. refl) (term-more names)

-- ---- uses

abbrev use_rule : Rule Factor
use_rule = plain use_of DerivesUse

use-more : (names : Names) → Completable DerivesUse [] names
use-more names = let t = term-more names in record { more = t.more; value = record { times = 1; term = t.value }; after = t.after; derived = rule.once t.more names t.value t.after t.derived }

-- a term that counts so many times
abbrev counted : ℕ → Term → Factor
counted n t = record { times = n; term = t }

abbrev timed : ℕ → Production Factor
timed n ts names = term_of ts names >>= λ t. Ok (record { times = n; term = t.0 }, t.1, t.2)

record Timed (n : ℕ) (us : List Token) (names : Names) (u : Factor) (after : Names) : Type 0 where
  value : Term
  is : u ≡ counted n value
  derived : DerivesTerm us names value after

timed-outcome : (n : ℕ) (ts : List Token) (names : Names) → Outcome (plain (timed n) (Timed n)) ts names
timed-outcome n ts names = prefixed term_rule (plain (timed n) (Timed n)) [] names names (counted n) embed embed ts (λ us same. refl) (term-outcome ts names)
  where
    embed : (us : List Token) (t : Term) (after : Names) → DerivesTerm us names t after → Timed n us names (counted n t) after
    embed us t after d = record { value = t; is = refl; derived = d }

timed-more : (n : ℕ) (names : Names) → Completable (Timed n) [] names
timed-more n names = let t = term-more names in record { more = t.more; value = counted n t.value; after = t.after; derived = record { value = t.value; is = refl; derived = t.derived } }

timed-derives : (digits : List ℕ) (n : ℕ) → IsNumber most_times digits n → (us : List Token) (names : Names) (u : Factor) (after : Names) → TokenThen times (Timed n) us names u after → DerivesUse (number digits ∷ us) names u after
timed-derives digits n says us names u after (vs, is, t) =
    subst (λ ws. DerivesUse (number digits ∷ ws) names u after) (sym is) (subst (λ u. DerivesUse (number digits ∷ times ∷ vs) names u after) (sym t.is) (rule.many digits n vs names t.value after says t.derived))

-- what is left of a use after its digits
abbrev after_digits : List Token → Names → Option ℕ → ReadResult Factor
after_digits ts names o = or_bad_form o >>= (λ n. tokens_past times ts >>= λ rest. Ok (with_rest rest n)) >>= λ n. term_of n.1 names >>= λ t. Ok (record { times = n.0; term = t.0 }, t.1, t.2)

use-outcome : (ts : List Token) (names : Names) → Outcome use_rule ts names
unfolding use_of factor term_of named_term
use-outcome [] names = fails (ends (record { refused = refl; completable = use-more names }))
use-outcome (number d ∷ ts) names = by_value (at_most most_times (number_of 10 d)) refl
  where
    by_value : (o : Option ℕ) → at_most most_times (number_of 10 d) ≡ o → Outcome use_rule (number d ∷ ts) names
    by_value None e = offends_first use_rule (number d) ts names (λ more. ap (after_digits more names) e) (use-more names)
    by_value (Some n) e =
        prefixed (plain (λ ts names. tokens_past times ts >>= λ rest. timed n rest names) (TokenThen times (Timed n))) use_rule (number d ∷ []) names names (λ u. u) (λ us u after t. timed-derives d n e us names u after t) (λ us u after t. timed-derives d n e us names u after t) ts
        (λ us same. ap (after_digits us names) e
        ∙ then_then (tokens_past times us) (λ rest. Ok (with_rest rest n)) (λ n. term_of n.1 names >>= λ t. Ok (record { times = n.0; term = t.0 }, t.1, t.2))
        ∙ sym (then_same (tokens_past times us >>= λ rest. timed n rest names)))
        (then_first times (timed n) (Timed n) (timed-more n) (timed-outcome n) ts names)
use-outcome (t ∷ ts) names =
    prefixed term_rule use_rule [] names names (counted 1) (λ us t after d. rule.once us names t after d) (λ us t after d. rule.once us names t after d) (t ∷ ts)
    (λ us same. ap (λ o. factor_by us o >>= λ n. term_of n.1 names >>= λ t. Ok (record { times = n.0; term = t.0 }, t.1, t.2)) (no_kind-alike digits_in us (t ∷ ts) same refl)) (term-outcome (t ∷ ts) names)

-- ---- sums

abbrev pub sum_rule : Rule (List Factor)
sum_rule = plain sum_of DerivesSum

abbrev one_use : List Factor → Rule (List Factor)
one_use = limited_rule most_factors use_of DerivesUse

abbrev uses_left : Factor × List Token × Names → ReadResult (List Factor)
uses_left u = more_uses (most_factors - 1) (u.0 ∷ []) u.1 u.2

sum-way : Listing plus (one_use []) one_use sum_rule
unfolding sum_of
sum-way = record {
  Goes = λ s names ts r. (room : ℕ) × (length s + room ≡ most_factors) × (r ≡ more_uses room s ts names);
  stop = λ s names ts r g missed. g.2 ∙ more_uses-stop g.0 s ts names missed;
  more = λ s names us r t rest after g read short.
      let x = limited-ok most_factors use_of s t us rest names after read in (
        g.0 - 1,
        omega (arith, g.1, x.1, ap length x.3, length-append s (x.0 ∷ [])),
        g.2 ∙ more_uses-more g.0 s (plus ∷ us) us rest names after x.0 (omega (arith, g.1, x.1)) refl x.2 ∙ ap (λ s. more_uses (g.0 - 1) s rest after) x.3,
      );
  fail = λ s names us r f g lost. g.2 ∙ more_uses-fail g.0 s (plus ∷ us) us names f refl (elim (limited-err most_factors use_of s us names f lost) [
    | inl full ↦ inl (omega (arith, g.1, full.0), full.1)
    | inr it ↦ inr (omega (arith, g.1, it.0), it.1)
  ]);
  begin = λ ts names s rest after read.
      let x = limited-ok most_factors use_of [] s ts rest names after read in (
        most_factors - 1,
        omega (arith, ap length x.3),
        ap (λ r. r >>= uses_left) x.2 ∙ ap (λ s. more_uses (most_factors - 1) s rest after) x.3,
      );
  begin_fail = λ ts names f lost. elim (limited-err most_factors use_of [] ts names f lost) [
    | inl full ↦ absurd (omega (arith, full.0))
    | inr it ↦ ap (λ r. r >>= uses_left) it.1
  ];
  one = λ us names s after d. subst (λ s. DerivesSum us names s after) d.is (rule.one us names d.value after d.derived);
  one_deeper = λ us names s after d. subst (λ s. DerivesSum us names s after) d.is (rule.one us names d.value after d.derived);
  join = λ us vs names s mid t after d e. subst (λ t. DerivesSum (us ++ plus ∷ vs) names t after) e.is (rule.more us vs names s mid e.value after d e.few e.derived);
  join_deeper = λ us vs names s mid t after d e. subst (λ t. DerivesSum (us ++ plus ∷ vs) names t after) e.is (rule.more us vs names s mid e.value after d e.few e.derived);
  each = λ us names s mid d ts. limited-outcome most_factors use_of DerivesUse use-outcome s ts mid;
}

pub sum-outcome : (ts : List Token) (names : Names) → Outcome sum_rule ts names
sum-outcome ts names = listed plus (one_use []) one_use sum_rule sum-way names ts (limited-within most_factors use_of DerivesUse use-outcome [] (omega arith) ts names)

-- ---- comparisons

-- op bound, after a sum
abbrev limit : List Factor → Production Cond
limit sum ts names = operator ts >>= λ o. bound o.1 >>= λ b. Ok (roll-Cond (form.Compare sum o.0 b.0), b.1, names)

abbrev compare : List Factor → Op → ℕ → Cond
compare sum o b = roll-Cond (form.Compare sum o b)

record Limit (sum : List Factor) (us : List Token) (names : Names) (c : Cond) (after : Names) : Type 0 where
  sign : Op
  digits : List ℕ
  value : ℕ
  is : us ≡ op sign ∷ number digits ∷ []
  says : IsNumber most_bound digits value
  said : c ≡ compare sum sign value
  same : after ≡ names

abbrev limit_rule : List Factor → Rule Cond
limit_rule sum = plain (limit sum) (Limit sum)

limit-of : (sum : List Factor) (o : Op) (names : Names) → Limit sum (op o ∷ number (codes "1") ∷ []) names (compare sum o 1) names
limit-of sum o names = record { sign = o; digits = codes "1"; value = 1; is = refl; says = refl; said = refl; same = refl }

limit-more : (sum : List Factor) (names : Names) → Completable (Limit sum) [] names
limit-more sum names = record { more = op AtMost ∷ number (codes "1") ∷ []; value = compare sum AtMost 1; after = names; derived = limit-of sum AtMost names }

bound-more : (sum : List Factor) (o : Op) (names : Names) → Completable (Limit sum) (op o ∷ []) names
bound-more sum o names = record { more = number (codes "1") ∷ []; value = compare sum o 1; after = names; derived = limit-of sum o names }

abbrev with_bound : List Factor → Op → List Token → Names → Option ℕ → ReadResult Cond
with_bound sum o ts names x = or_bad_form x >>= (λ n. Ok (with_rest ts n)) >>= λ b. Ok (roll-Cond (form.Compare sum o b.0), b.1, names)

limit-outcome : (sum : List Factor) (ts : List Token) (names : Names) → Outcome (limit_rule sum) ts names
unfolding operator bound
limit-outcome sum [] names = fails (ends (record { refused = refl; completable = limit-more sum names }))
limit-outcome sum (op o ∷ []) names = fails (ends (record { refused = refl; completable = bound-more sum o names }))
limit-outcome sum (op o ∷ number d ∷ ts) names = by_value (at_most most_bound (number_of 10 d)) refl
  where
    by_value : (x : Option ℕ) → at_most most_bound (number_of 10 d) ≡ x → Outcome (limit_rule sum) (op o ∷ number d ∷ ts) names
    by_value None e = offends_second (limit_rule sum) (op o) (number d) ts names (λ more. ap (with_bound sum o more names) e) (bound-more sum o names)
    by_value (Some n) e = reads (record {
      used = op o ∷ number d ∷ [];
      rest = ts;
      value = compare sum o n;
      after = names;
      split = refl;
      derived = record { sign = o; digits = d; value = n; is = refl; says = e; said = refl; same = refl };
      whatever_follows = λ later same. ap (with_bound sum o later names) e;
    })
limit-outcome sum (op o ∷ t ∷ ts) names = offends_second (limit_rule sum) (op o) t ts names (λ more. refl) (bound-more sum o names)
limit-outcome sum (t ∷ ts) names = offends_first (limit_rule sum) t ts names (λ more. refl) (limit-more sum names)

-- sum op bound
pub record Compared (us : List Token) (names : Names) (c : Cond) (after : Names) : Type 0 where
  pub first : List Token
  pub sum : List Factor
  pub sign : Op
  pub digits : List ℕ
  pub value : ℕ
  pub is : us ≡ first ++ op sign ∷ number digits ∷ []
  pub sums : DerivesSum first names sum after
  pub says : IsNumber most_bound digits value
  pub said : c ≡ roll-Cond (form.Compare sum sign value)

compared-joins : Joins DerivesSum Limit Compared
compared-joins = record {
  join = λ us vs names sum mid c after d l. record {
    first = us;
    sum = sum;
    sign = l.sign;
    digits = l.digits;
    value = l.value;
    is = ap (λ ws. us ++ ws) l.is;
    sums = subst (λ ns. DerivesSum us names sum ns) (sym l.same) d;
    says = l.says;
    said = l.said;
  };
}

pub comparison-outcome : (ts : List Token) (names : Names) → Outcome (plain comparison Compared) ts names
unfolding comparison
comparison-outcome ts names = sequence sum_rule limit_rule (plain comparison Compared) (λ ts names. refl) compared-joins compared-joins compared-joins (λ us names s mid d. limit-more s mid) (λ us names s mid d. limit-more s mid)
    ts names (sum-outcome ts names) (λ r. limit-outcome r.value r.rest r.after)
