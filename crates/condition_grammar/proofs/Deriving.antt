-- The tokens that were read derive what was read.
use Rattle.std.proofs.Common.{◌≡◌, ℕ, zero, suc, ◌+◌, ◌<◌, ◌≤◌, Bool, true, false, ◌⊎◌, inl, inr, ⊎_elim, IsTrue, List, [], ◌∷◌, ◌++◌, length, min, max, nat_le, nat_lt, ◌-◌, Option, None, Some, Result, Ok, Err, codes, eqb, refl, sym, ap, subst, ◌∙◌, arith, append_assoc, append-nil, length-append, if◌then◌else◌}
use Rattle.std.specs.Str.{bytes_eq}
use Rattle.std.proofs.lemmas.Bool.{false≢true, ltb-false, ltb-true, leb-true}
use Rattle.std.proofs.lemmas.Slice.Eq.{bytes_eq-Decides}
use Rattle.line_fields.specs.meaning.Fields.{is_label_word, number_of}
use Rattle.line_fields.specs.meaning.Names.{Names}
use Rattle.conditions.specs.declared.condition.Cond.{Cond}
use Rattle.conditions.specs.declared.condition.Cond.TheOpen as form
use Rattle.conditions.specs.declared.condition.Cond.TheViews.{roll-Cond}
use Rattle.conditions.specs.declared.condition.Factor.{Factor}
use Rattle.conditions.specs.declared.condition.Op.{Op}
use Rattle.conditions.specs.declared.condition.Op.TheVariants.{AtMost, Below, AtLeast, Above, Equal, Unequal}
use Rattle.conditions.specs.declared.condition.Term.{Term}
use Rattle.conditions.specs.declared.condition.Term.TheVariants as term
use Rattle.conditions.specs.meaning.Written.{most_times, most_bound, most_factors, most_pattern_vertices, most_depth, most_tokens}
use Rattle.conditions.specs.declared.pattern.Pattern.{Pattern}
use Rattle.conditions.specs.declared.pattern.PatternEdge.{PatternEdge}
use Rattle.condition_grammar.specs.declared.fault.ConditionKind.TheVariants.{BadForm, TooDeep}
use Rattle.condition_grammar.specs.declared.joint.Joint.{Joint}
use Rattle.condition_grammar.specs.declared.joint.Joint.TheVariants.{And, Or}
use Rattle.condition_grammar.specs.declared.term_name.TermName.{TermName}
use Rattle.condition_grammar.specs.declared.term_name.TermName.TheVariants as name
use Rattle.condition_grammar.specs.meaning.Token.{Token, op_number, is_same_token, bytes_in, digits_in, op_in, word, number, opening, closing, comma, semicolon, plus, times, op}
use Rattle.condition_grammar.specs.meaning.Grammar.{Production, Nested, ◌>>=◌, tokens_after, or_bad_form, tokens_past, first_of, at_most, value_up_to, label, bound, operator, term_name, named_term, optional_label, two_labels, term_after_name, term_of, factor, factor_by, use_of, more_uses, sum_of, comparison, neg, joint_word, begins_with, is_new_pair, label_after, more_items, pair_after, pair_label, pair_numbers, pairs, pattern_labels, pattern_of, vertex_number, with_edge, chain, joined_by, conj, cond_within, nested_within, nothing_after, condition, condition_of}
use Rattle.condition_grammar.specs.meaning.Derivations as rule
use Rattle.condition_grammar.specs.meaning.Derivations.{IsLabel, IsNumber, AreEnds, DerivesTerm, DerivesUse, DerivesSum, DerivesLabels, DerivesPair, DerivesPairs, DerivesShape, Derives, Phrase, Says}
use Rattle.condition_grammar.proofs.Productions.{OfAtoms, ReadLabel, alone-read, bind_ok, chain-keeps, chosen_ok, comparison-read, items-keep, condition_of-read, found_ok, labelled, more_uses-keeps, neg-read, ok_same, optional_label-read, some_same, two_labels-read, use_of-read}

-- ---- tokens

same_op : (o p : Op) → eqb (op_number o) (op_number p) ≡ true → o ≡ p
same_op AtMost AtMost e = refl
same_op Below Below e = refl
same_op AtLeast AtLeast e = refl
same_op Above Above e = refl
same_op Equal Equal e = refl
same_op Unequal Unequal e = refl
same_op o p e = absurd (false≢true e)

same_token : (u t : Token) → is_same_token u t ≡ true → u ≡ t
same_token (word w) (word v) e = ap word ((bytes_eq-Decides w v).0 e)
same_token (number d) (number c) e = ap number ((bytes_eq-Decides d c).0 e)
same_token opening opening e = refl
same_token closing closing e = refl
same_token comma comma e = refl
same_token semicolon semicolon e = refl
same_token plus plus e = refl
same_token times times e = refl
same_token (op o) (op p) e = ap op (same_op o p e)
same_token u t e = absurd (false≢true e)

pub after_is : (t : Token) (ts rest : List Token) → tokens_after t ts ≡ Some rest → ts ≡ t ∷ rest
after_is t [] rest h = absurd (let no : None ≡ Some rest = h in cc)
after_is t (u ∷ ts) rest h = by_test (is_same_token u t) refl h
  where
    by_test : (b : Bool) → is_same_token u t ≡ b → (if b then Some ts else None) ≡ Some rest → u ∷ ts ≡ t ∷ rest
    by_test true same e = ap (λ v. v ∷ ts) (same_token u t same) ∙ ap (λ us. t ∷ us) (some_same e)
    by_test false same e = absurd (let no : None ≡ Some rest = e in cc)

past_is : (t : Token) (ts rest : List Token) → tokens_past t ts ≡ Ok rest → ts ≡ t ∷ rest
past_is t ts rest h = after_is t ts rest (found_ok (tokens_after t ts) rest h)

first_word : (ts : List Token) (x : List ℕ × List Token) → first_of bytes_in ts ≡ Some x → ts ≡ word x.0 ∷ x.1
first_word [] x h = absurd (let no : None ≡ Some x = h in cc)
first_word (word w ∷ ts) x h = let same : (w, ts) ≡ x = some_same h in ap (λ (p : List ℕ × List Token). word p.0 ∷ p.1) same
first_word (t ∷ ts) x h = absurd (let no : None ≡ Some x = h in cc)

first_number : (ts : List Token) (x : List ℕ × List Token) → first_of digits_in ts ≡ Some x → ts ≡ number x.0 ∷ x.1
first_number [] x h = absurd (let no : None ≡ Some x = h in cc)
first_number (number d ∷ ts) x h = let same : (d, ts) ≡ x = some_same h in ap (λ (p : List ℕ × List Token). number p.0 ∷ p.1) same
first_number (t ∷ ts) x h = absurd (let no : None ≡ Some x = h in cc)

first_op : (ts : List Token) (x : Op × List Token) → first_of op_in ts ≡ Some x → ts ≡ op x.0 ∷ x.1
first_op [] x h = absurd (let no : None ≡ Some x = h in cc)
first_op (op o ∷ ts) x h = let same : (o, ts) ≡ x = some_same h in ap (λ (p : Op × List Token). op p.0 ∷ p.1) same
first_op (t ∷ ts) x h = absurd (let no : None ≡ Some x = h in cc)

value_is : (most : ℕ) (digits : List ℕ) (n : ℕ) → value_up_to most digits ≡ Ok n → IsNumber most digits n
value_is most digits n h = found_ok (at_most most (number_of 10 digits)) n h

-- ---- labels

record TookLabel (ts : List Token) (names : Names) (x : ℕ × List Token × Names) : Type 0 where
  text : List ℕ
  is : ts ≡ word text ∷ x.1
  labels : IsLabel text names x.0 x.2

chosen_true : {A E : Type 0} (b : Bool) (e : E) (x y : A) → (if b then Ok x else Err e) ≡ Ok y → IsTrue b
chosen_true true e x y h = refl
chosen_true {A} {E} false e x y h = absurd (let no : ◌≡◌ {A = Result A E} (Err e) (Ok y) = h in cc)

label-took : (ts : List Token) (names : Names) (x : ℕ × List Token × Names) → label ts names ≡ Ok x → TookLabel ts names x
unfolding label
label-took ts names x h =
    let (w, found, chosen) = bind_ok (or_bad_form (first_of bytes_in ts)) (λ w. if is_label_word w.0 then Ok (labelled names w) else Err BadForm) x h in
    let in_form = chosen_true (is_label_word w.0) BadForm (labelled names w) x chosen in
    let same : labelled names w ≡ x = ok_same (subst (λ b. (if b then Ok (labelled names w) else Err BadForm) ≡ Ok x) in_form chosen) in
    record {
      text = w.0;
      is = first_word ts w (found_ok (first_of bytes_in ts) w found) ∙ ap (λ (y : ℕ × List Token × Names). word w.0 ∷ y.1) same;
      labels = record { in_form = in_form; numbered = ap (λ (y : ℕ × List Token × Names). (y.0, y.2)) (sym same) };
    }

-- ---- terms and sums

-- the first of these tokens derive what was read
pub record Took {A : Type 0} (D : List Token → Names → A → Names → Type 0) (ts : List Token) (names : Names) (x : A × List Token × Names) : Type 0 where
  pub used : List Token
  pub is : ts ≡ used ++ x.1
  pub derived : D used names x.0 x.2

-- a term's name, and a label after it
module _ (v : List ℕ) (make : Option ℕ → Term) (bare : (names : Names) → DerivesTerm (word v ∷ []) names (make None) names)
    (labelled : (w : List ℕ) (names : Names) (l : ℕ) (after : Names) → IsLabel w names l after → DerivesTerm (word v ∷ opening ∷ word w ∷ closing ∷ []) names (make (Some l)) after)
    (ts : List Token) (names : Names) (l : Option ℕ × List Token × Names) where
  optional-took : optional_label ts names ≡ Ok l → Took DerivesTerm (word v ∷ ts) names (make l.0, l.1, l.2)
  optional-took h =
      let P : Option ℕ × List Token × Names → Type 0 = λ y. Took DerivesTerm (word v ∷ ts) names (make y.0, y.1, y.2) in
      ⊎_elim (λ equal. subst P equal (record { used = word v ∷ []; is = refl; derived = bare names }))
      (λ (r : ReadLabel ts names l).
      let one = label-took r.start names r.inner r.reads in
      subst P r.is (record {
        used = word v ∷ opening ∷ word one.text ∷ closing ∷ [];
        is = ap (λ us. word v ∷ us) (after_is opening ts r.start r.opens ∙ ap (λ us. opening ∷ us) (one.is ∙ ap (λ us. word one.text ∷ us) (past_is closing r.inner.1 r.end r.closes)));
        derived = labelled one.text names r.inner.0 r.inner.2 one.labels;
      }))
      (optional_label-read ts names l h)

two-took : (ts : List Token) (names : Names) (l : (ℕ × ℕ) × List Token × Names) → two_labels ts names ≡ Ok l → Took DerivesTerm (word (codes "joins") ∷ ts) names (term.Joins l.0.0 l.0.1, l.1, l.2)
two-took ts names l h =
    let r = two_labels-read ts names l h in
    let one = label-took r.start names r.first r.reads in
    let two = label-took r.middle r.first.2 r.second r.reads_too in
    subst (λ (y : (ℕ × ℕ) × List Token × Names). Took DerivesTerm (word (codes "joins") ∷ ts) names (term.Joins y.0.0 y.0.1, y.1, y.2)) r.is (record {
      used = word (codes "joins") ∷ opening ∷ word one.text ∷ comma ∷ word two.text ∷ closing ∷ [];
      is = ap (λ us. word (codes "joins") ∷ us) (past_is opening ts r.start r.opens ∙ ap (λ us. opening ∷ us) (one.is ∙ ap (λ us. word one.text ∷ us)
          (past_is comma r.first.1 r.middle r.parts ∙ ap (λ us. comma ∷ us) (two.is ∙ ap (λ us. word two.text ∷ us) (past_is closing r.second.1 r.end r.closes)))));
      derived = rule.joins one.text two.text names r.first.0 r.first.2 r.second.0 r.second.2 one.labels two.labels;
    })

abbrev name_text : TermName → List ℕ
name_text name.Vertices = codes "vertices"
name_text name.Edges = codes "edges"
name_text name.Joins = codes "joins"
name_text name.Kinds = codes "kinds"
name_text name.Degree = codes "degree"
name_text name.Missing = codes "missing"
name_text name.Least = codes "least"

-- a word that is the name of a term
name_is : (w : List ℕ) (n : TermName) → term_name w ≡ Some n → w ≡ name_text n
name_is w n =
    next (codes "vertices") name.Vertices _ refl
    (next (codes "edges") name.Edges _ refl
    (next (codes "joins") name.Joins _ refl
    (next (codes "kinds") name.Kinds _ refl
    (next (codes "degree") name.Degree _ refl
    (next (codes "missing") name.Missing _ refl
    (next (codes "least") name.Least None refl (λ h. absurd (let no : None ≡ Some n = h in cc))))))))
  where
    next : (text : List ℕ) (m : TermName) (later : Option TermName) → name_text m ≡ text → (later ≡ Some n → w ≡ name_text n) → (if bytes_eq w text then Some m else later) ≡ Some n → w ≡ name_text n
    next text m later text_is others h = by_test (bytes_eq w text) refl h
      where
        by_test : (b : Bool) → bytes_eq w text ≡ b → (if b then Some m else later) ≡ Some n → w ≡ name_text n
        by_test true same e = (bytes_eq-Decides w text).0 same ∙ sym text_is ∙ ap name_text (some_same e)
        by_test false same e = others e

after_name-took : (n : TermName) (ts : List Token) (names : Names) (x : Term × List Token × Names) → term_after_name n ts names ≡ Ok x → Took DerivesTerm (word (name_text n) ∷ ts) names x
unfolding term_after_name
after_name-took name.Vertices ts names x h =
    let (l, read, done) = bind_ok (optional_label ts names) (λ l. Ok (term.Vertices l.0, l.1, l.2)) x h in
    subst (Took DerivesTerm (word (codes "vertices") ∷ ts) names) (ok_same done) (optional-took (codes "vertices") term.Vertices rule.vertices rule.vertices_of ts names l read)
after_name-took name.Edges ts names x h =
    let (l, read, done) = bind_ok (optional_label ts names) (λ l. Ok (term.Edges l.0, l.1, l.2)) x h in
    subst (Took DerivesTerm (word (codes "edges") ∷ ts) names) (ok_same done) (optional-took (codes "edges") term.Edges rule.edges rule.edges_of ts names l read)
after_name-took name.Joins ts names x h =
    let (l, read, done) = bind_ok (two_labels ts names) (λ l. Ok (term.Joins l.0.0 l.0.1, l.1, l.2)) x h in
    subst (Took DerivesTerm (word (codes "joins") ∷ ts) names) (ok_same done) (two-took ts names l read)
after_name-took name.Kinds ts names x h = subst (Took DerivesTerm (word (codes "kinds") ∷ ts) names) (ok_same h) (record { used = word (codes "kinds") ∷ []; is = refl; derived = rule.kinds names })
after_name-took name.Degree ts names x h = subst (Took DerivesTerm (word (codes "degree") ∷ ts) names) (ok_same h) (record { used = word (codes "degree") ∷ []; is = refl; derived = rule.degree names })
after_name-took name.Missing ts names x h = subst (Took DerivesTerm (word (codes "missing") ∷ ts) names) (ok_same h) (record { used = word (codes "missing") ∷ []; is = refl; derived = rule.missing names })
after_name-took name.Least ts names x h = subst (Took DerivesTerm (word (codes "least") ∷ ts) names) (ok_same h) (record { used = word (codes "least") ∷ []; is = refl; derived = rule.least names })

term-took : (ts : List Token) (names : Names) (x : Term × List Token × Names) → term_of ts names ≡ Ok x → Took DerivesTerm ts names x
unfolding term_of named_term
term-took ts names x h =
    let (n, named, goes_on) = bind_ok (named_term ts) (λ n. term_after_name n.0 n.1 names) x h in
    let (w, first, h1) = bind_ok (or_bad_form (first_of bytes_in ts)) (λ w. or_bad_form (term_name w.0) >>= λ n. Ok (n, w.1)) n named in
    let (m, is_name, h2) = bind_ok (or_bad_form (term_name w.0)) (λ n. Ok (n, w.1)) n h1 in
    let same : (m, w.1) ≡ n = ok_same h2 in
    let ts_is : ts ≡ word (name_text n.0) ∷ n.1 =
    first_word ts w (found_ok (first_of bytes_in ts) w first) ∙ ap (λ v. word v ∷ w.1) (name_is w.0 m (found_ok (term_name w.0) m is_name)) ∙ ap (λ (p : TermName × List Token). word (name_text p.0) ∷ p.1) same in
    subst (λ us. Took DerivesTerm us names x) (sym ts_is) (after_name-took n.0 n.1 names x goes_on)

-- a factor, or 1 where none is written
factor-took : (ts : List Token) (n : ℕ × List Token) → factor ts ≡ Ok n → (n ≡ (1, ts)) ⊎ ((digits : List ℕ) × (ts ≡ number digits ∷ times ∷ n.1) × IsNumber most_times digits n.0)
unfolding factor
factor-took ts n h = by_first (first_of digits_in ts) refl h
  where
    by_first : (o : Option (List ℕ × List Token)) → first_of digits_in ts ≡ o → factor_by ts o ≡ Ok n → (n ≡ (1, ts)) ⊎ ((digits : List ℕ) × (ts ≡ number digits ∷ times ∷ n.1) × IsNumber most_times digits n.0)
    by_first None first e = inl (sym (ok_same e))
    by_first (Some d) first e =
        let (m, value, h1) = bind_ok (value_up_to most_times d.0) (λ n. tokens_past times d.1 >>= λ rest. Ok (n, rest)) n e in
        let (rest, past, h2) = bind_ok (tokens_past times d.1) (λ rest. Ok (m, rest)) n h1 in
        let same : (m, rest) ≡ n = ok_same h2 in
        inr (
          d.0,
          first_number ts d first ∙ ap (λ us. number d.0 ∷ us) (past_is times d.1 rest past ∙ ap (λ (p : ℕ × List Token). times ∷ p.1) same),
          subst (λ (p : ℕ × List Token). IsNumber most_times d.0 p.0) same (value_is most_times d.0 m value),
        )

use-took : (ts : List Token) (names : Names) (x : Factor × List Token × Names) → use_of ts names ≡ Ok x → Took DerivesUse ts names x
use-took ts names x h =
    let r = use_of-read ts names x h in
    let it = term-took r.times.1 names r.inner r.reads in
    let P : ℕ × List Token → Type 0 = λ n. Took DerivesUse ts names (record { times = n.0; term = r.inner.0 }, r.inner.1, r.inner.2) in
    subst (Took DerivesUse ts names) r.is
    (⊎_elim
    (λ (one : r.times ≡ (1, ts)).
    subst P (sym one) (record {
      used = it.used;
      is = sym (ap (λ (p : ℕ × List Token). p.1) one) ∙ it.is;
      derived = rule.once it.used names r.inner.0 r.inner.2 it.derived;
    }))
    (λ (s : (digits : List ℕ) × (ts ≡ number digits ∷ times ∷ r.times.1) × IsNumber most_times digits r.times.0). record {
      used = number s.0 ∷ times ∷ it.used;
      is = s.1 ∙ ap (λ us. number s.0 ∷ times ∷ us) it.is;
      derived = rule.many s.0 r.times.0 it.used names r.inner.0 r.inner.2 s.2 it.derived;
    })
    (factor-took ts r.times r.counts))

-- a sum so far, with room for more uses
record TookSum (ts : List Token) (names : Names) (room : ℕ) (x : List Factor × List Token × Names) : Type 0 where
  took : Took DerivesSum ts names x
  long : length x.0 + room ≡ most_factors

sum-took : (ts : List Token) (names : Names) (x : List Factor × List Token × Names) → sum_of ts names ≡ Ok x → Took DerivesSum ts names x
unfolding sum_of
sum-took ts names x h =
    let (u, used, later) = bind_ok (use_of ts names) (λ u. more_uses (most_factors - 1) (u.0 ∷ []) u.1 u.2) x h in
    let it = use-took ts names u used in
    (more_uses-keeps (TookSum ts names) one_more (most_factors - 1) (u.0 ∷ []) u.1 u.2 x
    (record { took = record { used = it.used; is = it.is; derived = rule.one it.used names u.0 u.2 it.derived }; long = omega arith }) later).1.took
  where
    one_more : (room : ℕ) (sum : List Factor) (now rest : List Token) (held : Names) (u : Factor × List Token × Names) → TookSum ts names (suc room) (sum, now, held) → tokens_after plus now ≡ Some rest → use_of rest held ≡ Ok u
        → TookSum ts names room (sum ++ u.0 ∷ [], u.1, u.2)
    one_more room sum now rest held u so_far next used =
        let it = use-took rest held u used in
        let was = so_far.took in
        record {
          took = record {
            used = was.used ++ plus ∷ it.used;
            is = was.is ∙ ap (λ us. was.used ++ us) (after_is plus now rest next ∙ ap (λ us. plus ∷ us) it.is) ∙ sym (append_assoc was.used (plus ∷ it.used) u.1);
            derived = rule.more was.used it.used names sum held u.0 u.2 was.derived (omega (arith, so_far.long)) it.derived;
          };
          long = omega (arith, so_far.long, length-append sum (u.0 ∷ []));
        }

-- ---- shapes

-- a label after others
label_after-took : (labels : List ℕ) (ts : List Token) (names : Names) (x : List ℕ × List Token × Names) → label_after labels ts names ≡ Ok x
    → (l : ℕ × List Token × Names) × (length labels < most_pattern_vertices) × (label ts names ≡ Ok l) × ((labels ++ l.0 ∷ [], l.1, l.2) ≡ x)
unfolding label_after
label_after-took labels ts names x h = by_test (nat_lt (length labels) most_pattern_vertices) refl h
  where
    by_test : (b : Bool) → nat_lt (length labels) most_pattern_vertices ≡ b → (if b then (label ts names >>= λ l. Ok (labels ++ l.0 ∷ [], l.1, l.2)) else Err BadForm) ≡ Ok x
        → (l : ℕ × List Token × Names) × (length labels < most_pattern_vertices) × (label ts names ≡ Ok l) × ((labels ++ l.0 ∷ [], l.1, l.2) ≡ x)
    by_test true few e =
        let (l, read, done) = bind_ok (label ts names) (λ l. Ok (labels ++ l.0 ∷ [], l.1, l.2)) x e in
        (l, ltb-true (length labels) most_pattern_vertices few, read, ok_same done)
    by_test false few e = absurd (let no : Err BadForm ≡ Ok x = e in cc)

labels-took : (ts : List Token) (names : Names) (x : List ℕ × List Token × Names) → pattern_labels ts names ≡ Ok x → Took DerivesLabels ts names x
unfolding pattern_labels
labels-took ts names x h =
    let (l, read, later) = bind_ok (label_after [] ts names) (λ l. more_items comma label_after (length l.1) l.0 l.1 l.2) x h in
    items-keep comma label_after (Took DerivesLabels ts names) one_more (length l.1) l.0 l.1 l.2 x (first l (label_after-took [] ts names l read)) later
  where
    first : (x : List ℕ × List Token × Names) → (l : ℕ × List Token × Names) × (0 < most_pattern_vertices) × (label ts names ≡ Ok l) × ((l.0 ∷ [], l.1, l.2) ≡ x) → Took DerivesLabels ts names x
    first x (l, few, read, same) =
        let one = label-took ts names l read in
        subst (Took DerivesLabels ts names) same (record { used = word one.text ∷ []; is = one.is; derived = rule.one_label one.text names l.0 l.2 one.labels })

    one_more : (labels : List ℕ) (now rest : List Token) (held : Names) (r : List ℕ × List Token × Names) → Took DerivesLabels ts names (labels, now, held) → tokens_after comma now ≡ Some rest → label_after labels rest held ≡ Ok r → Took DerivesLabels ts names r
    one_more labels now rest held r so_far next reads =
        let (l, few, read, same) = label_after-took labels rest held r reads in
        let one = label-took rest held l read in
        subst (Took DerivesLabels ts names) same (record {
          used = so_far.used ++ comma ∷ word one.text ∷ [];
          is = so_far.is ∙ ap (λ us. so_far.used ++ us) (after_is comma now rest next ∙ ap (λ us. comma ∷ us) one.is) ∙ sym (append_assoc so_far.used (comma ∷ word one.text ∷ []) l.1);
          derived = rule.more_labels so_far.used one.text names labels held l.0 l.2 so_far.derived few one.labels;
        })

record TookNumber (n : ℕ) (ts : List Token) (x : ℕ × List Token) : Type 0 where
  digits : List ℕ
  is : ts ≡ number digits ∷ x.1
  says : IsNumber n digits x.0
  some : 1 ≤ x.0

number-took : (n : ℕ) (ts : List Token) (x : ℕ × List Token) → vertex_number n ts ≡ Ok x → TookNumber n ts x
unfolding vertex_number
number-took n ts x h =
    let (d, first, h1) = bind_ok (or_bad_form (first_of digits_in ts)) (λ d. value_up_to n d.0 >>= λ i. if nat_le 1 i then Ok (i, d.1) else Err BadForm) x h in
    let (i, value, h2) = bind_ok (value_up_to n d.0) (λ i. if nat_le 1 i then Ok (i, d.1) else Err BadForm) x h1 in
    let some = chosen_true (nat_le 1 i) BadForm (i, d.1) x h2 in
    let same : (i, d.1) ≡ x = chosen_ok (nat_le 1 i) BadForm (i, d.1) x h2 in
    record {
      digits = d.0;
      is = first_number ts d (found_ok (first_of digits_in ts) d first) ∙ ap (λ (p : ℕ × List Token). number d.0 ∷ p.1) same;
      says = subst (λ (p : ℕ × List Token). IsNumber n d.0 p.0) same (value_is n d.0 i value);
      some = subst (λ (p : ℕ × List Token). 1 ≤ p.0) same (leb-true 1 i some);
    }

record TookEnds (n : ℕ) (edges : List PatternEdge) (ts : List Token) (x : (ℕ × ℕ) × List Token) : Type 0 where
  one : List ℕ
  other : List ℕ
  a : ℕ
  b : ℕ
  is : ts ≡ number one ∷ number other ∷ x.1
  ends : AreEnds n edges one other a b
  same : (min a b, max a b) ≡ x.0

numbers-took : (n : ℕ) (edges : List PatternEdge) (ts : List Token) (x : (ℕ × ℕ) × List Token) → pair_numbers n edges ts ≡ Ok x → TookEnds n edges ts x
unfolding pair_numbers
numbers-took n edges ts x h =
    let (a, first, h1) = bind_ok (vertex_number n ts) (λ a. vertex_number n a.1 >>= λ b. if is_new_pair edges a.0 b.0 then Ok ((min a.0 b.0, max a.0 b.0), b.1) else Err BadForm) x h in
    let (b, second, h2) = bind_ok (vertex_number n a.1) (λ b. if is_new_pair edges a.0 b.0 then Ok ((min a.0 b.0, max a.0 b.0), b.1) else Err BadForm) x h1 in
    let one = number-took n ts a first in
    let other = number-took n a.1 b second in
    let new = chosen_true (is_new_pair edges a.0 b.0) BadForm ((min a.0 b.0, max a.0 b.0), b.1) x h2 in
    let same : ((min a.0 b.0, max a.0 b.0), b.1) ≡ x = chosen_ok (is_new_pair edges a.0 b.0) BadForm ((min a.0 b.0, max a.0 b.0), b.1) x h2 in
    record {
      one = one.digits;
      other = other.digits;
      a = a.0;
      b = b.0;
      is = one.is ∙ ap (λ us. number one.digits ∷ us) (other.is ∙ ap (λ (p : (ℕ × ℕ) × List Token). number other.digits ∷ p.1) same);
      ends = record { one_says = one.says; other_says = other.says; some_first = one.some; some_second = other.some; new = new };
      same = ap (λ (p : (ℕ × ℕ) × List Token). p.0) same;
    }

pair_label-took : (ts : List Token) (names : Names) (x : ℕ × List Token × Names) → pair_label ts names ≡ Ok x → ((0, ts, names) ≡ x) ⊎ TookLabel ts names x
unfolding pair_label
pair_label-took ts names x h = by_test (begins_with bytes_in ts) h
  where
    by_test : (b : Bool) → (if b then label ts names else Ok (0, ts, names)) ≡ Ok x → ((0, ts, names) ≡ x) ⊎ TookLabel ts names x
    by_test true e = inr (label-took ts names x e)
    by_test false e = inl (ok_same e)

abbrev edge_of : ℕ × ℕ → ℕ → PatternEdge
edge_of p l = record { low = p.0; high = p.1; label = l }

-- an edge after others, and the edges then
record TookPair (n : ℕ) (edges : List PatternEdge) (ts : List Token) (names : Names) (x : List PatternEdge × List Token × Names) : Type 0 where
  read : PatternEdge × List Token × Names
  took : Took (DerivesPair n edges) ts names read
  same : (with_edge read.0 edges, read.1, read.2) ≡ x

pair-took : (n : ℕ) (edges : List PatternEdge) (ts : List Token) (names : Names) (x : List PatternEdge × List Token × Names) → pair_after n edges ts names ≡ Ok x → TookPair n edges ts names x
unfolding pair_after
pair-took n edges ts names x h =
    let (p, numbers, h1) = bind_ok (pair_numbers n edges ts) (λ p. pair_label p.1 names >>= λ l. Ok (with_edge (record { low = p.0.0; high = p.0.1; label = l.0 }) edges, l.1, l.2)) x h in
    let (l, read, h2) = bind_ok (pair_label p.1 names) (λ l. Ok (with_edge (record { low = p.0.0; high = p.0.1; label = l.0 }) edges, l.1, l.2)) x h1 in
    let it = numbers-took n edges ts p numbers in
    record {
      read = (edge_of p.0 l.0, l.1, l.2);
      took = subst (λ q. Took (DerivesPair n edges) ts names (edge_of q l.0, l.1, l.2)) it.same (by_label p l it (pair_label-took p.1 names l read));
      same = ok_same h2;
    }
  where
    by_label : (p : (ℕ × ℕ) × List Token) (l : ℕ × List Token × Names) (it : TookEnds n edges ts p) → ((0, p.1, names) ≡ l) ⊎ TookLabel p.1 names l → Took (DerivesPair n edges) ts names (edge_of (min it.a it.b, max it.a it.b) l.0, l.1, l.2)
    by_label p l it (inl bare) =
        subst (λ (y : ℕ × List Token × Names). Took (DerivesPair n edges) ts names (edge_of (min it.a it.b, max it.a it.b) y.0, y.1, y.2)) bare
        (record { used = number it.one ∷ number it.other ∷ []; is = it.is; derived = rule.bare_pair it.one it.other it.a it.b names it.ends })
    by_label p l it (inr one) = record {
      used = number it.one ∷ number it.other ∷ word one.text ∷ [];
      is = it.is ∙ ap (λ us. number it.one ∷ number it.other ∷ us) one.is;
      derived = rule.labelled_pair it.one it.other it.a it.b one.text names l.0 l.2 it.ends one.labels;
    }

pairs-took : (n : ℕ) (ts : List Token) (names : Names) (x : List PatternEdge × List Token × Names) → pairs n ts names ≡ Ok x → (([], ts, names) ≡ x) ⊎ Took (DerivesPairs n) ts names x
unfolding pairs
pairs-took n ts names x h = by_test (begins_with digits_in ts) h
  where
    one_more : (edges : List PatternEdge) (now rest : List Token) (held : Names) (r : List PatternEdge × List Token × Names) → Took (DerivesPairs n) ts names (edges, now, held) → tokens_after comma now ≡ Some rest → pair_after n edges rest held ≡ Ok r
        → Took (DerivesPairs n) ts names r
    one_more edges now rest held r so_far next reads =
        let it = pair-took n edges rest held r reads in
        subst (Took (DerivesPairs n) ts names) it.same (record {
          used = so_far.used ++ comma ∷ it.took.used;
          is = so_far.is ∙ ap (λ us. so_far.used ++ us) (after_is comma now rest next ∙ ap (λ us. comma ∷ us) it.took.is) ∙ sym (append_assoc so_far.used (comma ∷ it.took.used) it.read.1);
          derived = rule.more_pairs so_far.used it.took.used names edges held it.read.0 it.read.2 so_far.derived it.took.derived;
        })

    first : (e : List PatternEdge × List Token × Names) → TookPair n [] ts names e → Took (DerivesPairs n) ts names e
    first e it = subst (Took (DerivesPairs n) ts names) it.same (record { used = it.took.used; is = it.took.is; derived = rule.one_pair it.took.used names it.read.0 it.read.2 it.took.derived })

    by_test : (b : Bool) → (if b then (pair_after n [] ts names >>= λ e. more_items comma (pair_after n) (length e.1) e.0 e.1 e.2) else Ok ([], ts, names)) ≡ Ok x → (([], ts, names) ≡ x) ⊎ Took (DerivesPairs n) ts names x
    by_test true e =
        let (r, read, later) = bind_ok (pair_after n [] ts names) (λ e. more_items comma (pair_after n) (length e.1) e.0 e.1 e.2) x e in
        inr (items-keep comma (pair_after n) (Took (DerivesPairs n) ts names) one_more (length r.1) r.0 r.1 r.2 x (first r (pair-took n [] ts names r read)) later)
    by_test false e = inl (ok_same e)

abbrev pub shape_word : Token
shape_word = word (codes "shape")

pub pattern-took : (ts : List Token) (names : Names) (x : Pattern × List Token × Names) → pattern_of ts names ≡ Ok x → Took DerivesShape (shape_word ∷ ts) names x
unfolding pattern_of
pattern-took ts names x h =
    let (start, opens, h1) = bind_ok (tokens_past opening ts) _ x h in
    let (l, labels, h2) = bind_ok (pattern_labels start names) _ x h1 in
    let (middle, parts, h3) = bind_ok (tokens_past semicolon l.1) _ x h2 in
    let (e, edges, h4) = bind_ok (pairs (length l.0) middle l.2) _ x h3 in
    let (end, closes, h5) = bind_ok (tokens_past closing e.1) _ x h4 in
    let same : (record { labels = l.0; edges = e.0 }, end, e.2) ≡ x = ok_same h5 in
    let it = labels-took start names l labels in
    let before : shape_word ∷ ts ≡ shape_word ∷ opening ∷ it.used ++ semicolon ∷ middle =
    ap (λ us. shape_word ∷ us) (past_is opening ts start opens ∙ ap (λ us. opening ∷ us) (it.is ∙ ap (λ us. it.used ++ us) (past_is semicolon l.1 middle parts))) in
    subst (Took DerivesShape (shape_word ∷ ts) names) same (by_edges l it middle e end before (past_is closing e.1 end closes) (pairs-took (length l.0) middle l.2 e edges))
  where
    by_edges : (l : List ℕ × List Token × Names) {start : List Token} (it : Took DerivesLabels start names l) (middle : List Token) (e : List PatternEdge × List Token × Names) (end : List Token)
        → shape_word ∷ ts ≡ shape_word ∷ opening ∷ it.used ++ semicolon ∷ middle → e.1 ≡ closing ∷ end → (([], middle, l.2) ≡ e) ⊎ Took (DerivesPairs (length l.0)) middle l.2 e
        → Took DerivesShape (shape_word ∷ ts) names (record { labels = l.0; edges = e.0 }, end, e.2)
    by_edges l it middle e end before closes (inl bare) =
        let middle_is : middle ≡ closing ∷ end = ap (λ (y : List PatternEdge × List Token × Names). y.1) bare ∙ closes in
        subst (λ (y : List PatternEdge × List Token × Names). Took DerivesShape (shape_word ∷ ts) names (record { labels = l.0; edges = y.0 }, end, y.2)) bare (record {
          used = shape_word ∷ opening ∷ it.used ++ semicolon ∷ closing ∷ [];
          is = before ∙ ap (λ us. shape_word ∷ opening ∷ it.used ++ semicolon ∷ us) middle_is ∙ ap (λ us. shape_word ∷ opening ∷ us) (sym (append_assoc it.used (semicolon ∷ closing ∷ []) end));
          derived = rule.edgeless it.used names l.0 l.2 it.derived;
        })
    by_edges l it middle e end before closes (inr some) = record {
      used = shape_word ∷ opening ∷ (it.used ++ semicolon ∷ (some.used ++ closing ∷ []));
      is = before ∙ ap (λ us. shape_word ∷ opening ∷ it.used ++ semicolon ∷ us) (some.is ∙ ap (λ us. some.used ++ us) closes)
          ∙ ap (λ us. shape_word ∷ opening ∷ us) (sym (append_assoc it.used (semicolon ∷ some.used ++ closing ∷ []) end ∙ ap (λ us. it.used ++ semicolon ∷ us) (append_assoc some.used (closing ∷ []) end)));
      derived = rule.with_edges it.used some.used names l.0 l.2 e.0 e.2 it.derived some.derived;
    }

-- ---- conditions

-- the first of these tokens derive the condition as such a phrase, within the room
pub record TookPhrase (p : Phrase) (room : ℕ) (ts : List Token) (names : Names) (x : Cond × List Token × Names) : Type 0 where
  pub used : List Token
  pub is : ts ≡ used ++ x.1
  pub depth : ℕ
  pub shallow : depth ≤ room
  pub derived : Derives p used depth names x.0 x.2

comparison-took : (room : ℕ) (ts : List Token) (names : Names) (x : Cond × List Token × Names) → comparison ts names ≡ Ok x → TookPhrase rule.atom room ts names x
unfolding operator bound
comparison-took room ts names x h =
    let r = comparison-read ts names x h in
    let it = sum-took ts names r.sum r.sums in
    let (d, first, h1) = bind_ok (or_bad_form (first_of digits_in r.op.1)) (λ d. value_up_to most_bound d.0 >>= λ n. Ok (n, d.1)) r.limit r.bounds in
    let (n, value, h2) = bind_ok (value_up_to most_bound d.0) (λ n. Ok (n, d.1)) r.limit h1 in
    let same : (n, d.1) ≡ r.limit = ok_same h2 in
    let op_is = first_op r.sum.1 r.op (found_ok (first_of op_in r.sum.1) r.op r.compares) in
    let number_is = first_number r.op.1 d (found_ok (first_of digits_in r.op.1) d first) ∙ ap (λ (p : ℕ × List Token). number d.0 ∷ p.1) same in
    subst (TookPhrase rule.atom room ts names) r.is (record {
      used = it.used ++ op r.op.0 ∷ number d.0 ∷ [];
      is = it.is ∙ ap (λ us. it.used ++ us) (op_is ∙ ap (λ us. op r.op.0 ∷ us) number_is) ∙ sym (append_assoc it.used (op r.op.0 ∷ number d.0 ∷ []) r.limit.1);
      depth = 0;
      shallow = omega arith;
      derived = rule.compared it.used names r.sum.0 r.sum.2 r.op.0 d.0 r.limit.0 it.derived (subst (λ (p : ℕ × List Token). IsNumber most_bound d.0 p.0) same (value_is most_bound d.0 n value));
    })

-- what stands after one more `(` or `not`, where `room` more may be open
record TakesInside (room : ℕ) (within : Nested) : Type 0 where
  cond : (ts : List Token) (names : Names) (x : Cond × List Token × Names) → within.cond ts names ≡ Ok x → (left : ℕ) × (room ≡ left + 1) × TookPhrase rule.cond left ts names x
  neg : (ts : List Token) (names : Names) (x : Cond × List Token × Names) → within.neg ts names ≡ Ok x → (left : ℕ) × (room ≡ left + 1) × TookPhrase rule.neg left ts names x

abbrev TakesAll : Phrase → ℕ → Production Cond → Type 0
TakesAll p room production = (ts : List Token) (names : Names) (x : Cond × List Token × Names) → production ts names ≡ Ok x → TookPhrase p room ts names x

module _ (within : Nested) (room : ℕ) (inside : TakesInside room within) where
  -- an atom is a negation too
  as_neg : (ts : List Token) (names : Names) (x : Cond × List Token × Names) → TookPhrase rule.atom room ts names x → TookPhrase rule.neg room ts names x
  as_neg ts names x it = record { used = it.used; is = it.is; depth = it.depth; shallow = it.shallow; derived = rule.plain it.used it.depth names x.0 x.2 it.derived }

  atoms-took : (ts : List Token) (names : Names) → OfAtoms within ts names (TookPhrase rule.neg room ts names)
  atoms-took ts names = record {
    always = λ rest is. as_neg ts names (roll-Cond form.True, rest, names)
        (record { used = word (codes "true") ∷ []; is = after_is (word (codes "true")) ts rest is; depth = 0; shallow = omega arith; derived = rule.always names });
    never = λ rest is. as_neg ts names (roll-Cond form.False, rest, names)
        (record { used = word (codes "false") ∷ []; is = after_is (word (codes "false")) ts rest is; depth = 0; shallow = omega arith; derived = rule.never names });
    group = λ rest x is r.
        let (left, room_is, it) = inside.cond rest names r.inner r.reads in
        subst (TookPhrase rule.neg room ts names) r.is (as_neg ts names (r.inner.0, r.end, r.inner.2) (record {
          used = opening ∷ it.used ++ closing ∷ [];
          is = after_is opening ts rest is ∙ ap (λ us. opening ∷ us) (it.is ∙ ap (λ us. it.used ++ us) (past_is closing r.inner.1 r.end r.closes) ∙ sym (append_assoc it.used (closing ∷ []) r.end));
          depth = suc it.depth;
          shallow = omega (arith, it.shallow, room_is);
          derived = rule.grouped it.used it.depth names r.inner.0 r.inner.2 it.derived;
        }));
    shaped = λ rest s is read.
        let it = pattern-took rest names s read in
        as_neg ts names (roll-Cond (form.Shape s.0), s.1, s.2)
        (record { used = it.used; is = after_is shape_word ts rest is ∙ it.is; depth = 0; shallow = omega arith; derived = rule.shaped it.used names s.0 s.2 it.derived });
    compared = λ x read. as_neg ts names x (comparison-took room ts names x read);
  }

  neg-took : TakesAll rule.neg room (neg within)
  neg-took ts names x h =
      neg-read within ts names (TookPhrase rule.neg room ts names) (atoms-took ts names) x
      (λ rest c is read.
      let (left, room_is, it) = inside.neg rest names c read in
      record {
        used = word (codes "not") ∷ it.used;
        is = after_is (word (codes "not")) ts rest is ∙ ap (λ us. word (codes "not") ∷ us) it.is;
        depth = suc it.depth;
        shallow = omega (arith, it.shallow, room_is);
        derived = rule.negated it.used it.depth names c.0 c.2 it.derived;
      }) h

  joined-took : (j : Joint) (item : Production Cond) → TakesAll (rule.operand j) room item → TakesAll (rule.operands j) room (joined_by j item)
  unfolding joined_by
  joined-took j item items ts first x h =
      let (c, read, later) = bind_ok (item ts first) (λ c. chain j item (length c.1) c.0 c.1 c.2) x h in
      let it = items ts first c read in
      chain-keeps j item (TookPhrase (rule.operands j) room ts first)
      (λ left now rest held c so_far next read.
      let one = items rest held c read in
      record {
        used = so_far.used ++ joint_word j ∷ one.used;
        is = so_far.is ∙ ap (λ us. so_far.used ++ us) (after_is (joint_word j) now rest next ∙ ap (λ us. joint_word j ∷ us) one.is) ∙ sym (append_assoc so_far.used (joint_word j ∷ one.used) c.1);
        depth = max so_far.depth one.depth;
        shallow = omega (arith, so_far.shallow, one.shallow);
        derived = rule.more_operands j so_far.used one.used so_far.depth one.depth first left held c.0 c.2 so_far.derived one.derived;
      }) (length c.1) c.0 c.1 c.2 x
      (record { used = it.used; is = it.is; depth = it.depth; shallow = it.shallow; derived = rule.first j it.used it.depth first c.0 c.2 it.derived }) later

  cond-took : TakesAll rule.cond room (cond_within within)
  cond-took = joined-took Or (conj within) (joined-took And (neg within) neg-took)

inside-took : (room : ℕ) → TakesInside room (nested_within room)
unfolding nested_within
inside-took zero = record {
  cond = λ ts names x h. absurd (let no : Err TooDeep ≡ Ok x = h in cc);
  neg = λ ts names x h. absurd (let no : Err TooDeep ≡ Ok x = h in cc);
}
inside-took (suc room) = record {
  cond = λ ts names x h. (room, omega arith, cond-took (nested_within room) room (inside-took room) ts names x h);
  neg = λ ts names x h. (room, omega arith, neg-took (nested_within room) room (inside-took room) ts names x h);
}

alone-end : (c : Cond × List Token × Names) (x : Cond × Names) → nothing_after c ≡ Ok x → c.1 ≡ []
alone-end (c, [], names) x h = refl
alone-end (c, t ∷ ts, names) x h = absurd (let no : Err BadForm ≡ Ok x = h in cc)

-- a text that is read as a condition says it
pub condition_of-says : (text : List ℕ) (names : Names) (x : Cond × Names) → condition_of text names ≡ Ok x → Says text names x.0 x.1
unfolding condition
condition_of-says text names x h =
    let r = condition_of-read text names x h in
    let (c, read, ended) = bind_ok (cond_within (nested_within most_depth) r.tokens names) nothing_after x r.reads in
    let it = cond-took (nested_within most_depth) most_depth (inside-took most_depth) r.tokens names c read in
    let all : r.tokens ≡ it.used = it.is ∙ ap (λ us. it.used ++ us) (alone-end c x ended) ∙ append-nil it.used in
    record {
      tokens = r.tokens;
      cut = r.cut;
      few = ltb-false most_tokens (length r.tokens) r.few;
      depth = it.depth;
      shallow = it.shallow;
      derives = subst (λ us. Derives rule.cond us it.depth names x.0 x.1) (sym all)
          (subst (λ (y : Cond × Names). Derives rule.cond it.used it.depth names y.0 y.1) (alone-read c x ended) it.derived);
    }
