-- Each label of what was read has a name among the names then.
use Rattle.std.proofs.Common.{◌≡◌, ℕ, zero, suc, ◌-◌, Bool, true, ◌&&◌, IsTrue, ⊎_elim, eqb, nat_lt, List, [], ◌∷◌, ◌++◌, length, Option, None, Some, Ok, Err, refl, sym, ap, subst, ◌∙◌, arith, append_assoc, append-nil, length-append}
use Rattle.std.specs.List.{list_all}
use Rattle.std.specs.Str.{bytes_eq}
use Rattle.std.proofs.lemmas.Bool.{and_parts, and_from, or_cases, or_left, or_right, lt-ltb, ltb-true}
use Rattle.std.proofs.lemmas.List.Folds.{list_all-append}
use Rattle.std.proofs.lemmas.List.Quantifiers.{position-Some}
use Rattle.line_fields.specs.meaning.Names.{Names, number_in}
use Rattle.conditions.specs.declared.condition.Cond.{Cond}
use Rattle.conditions.specs.declared.condition.Cond.TheOpen as form
use Rattle.conditions.specs.declared.condition.Factor.{Factor}
use Rattle.conditions.specs.declared.condition.Term.{Term}
use Rattle.conditions.specs.declared.condition.Term.TheVariants as term
use Rattle.conditions.specs.meaning.Written.{most_factors, most_depth}
use Rattle.conditions.proofs.Forms.{by_form}
use Rattle.condition_grammar.specs.declared.fault.ConditionKind.TheVariants.{TooDeep}
use Rattle.condition_grammar.specs.declared.joint.Joint.{Joint}
use Rattle.condition_grammar.specs.declared.joint.Joint.TheVariants.{And, Or}
use Rattle.condition_grammar.specs.declared.term_name.TermName.{TermName}
use Rattle.condition_grammar.specs.meaning.Token.{Token, word, plus}
use Rattle.condition_grammar.specs.meaning.Grammar.{Production, Nested, tokens_after, label, label_number_by, named_term, optional_label, two_labels, term_after_name, term_of, use_of, more_uses, sum_of, comparison, neg, joined, chain, joined_by, conj, cond_within, nested_within, nothing_after, condition, condition_of}
use Rattle.condition_grammar.specs.meaning.Text.{knows_edge, knows_label, knows_labels, knows_pattern, knows_term}
use Rattle.condition_grammar.specs.meaning.Derivations as rule
use Rattle.condition_grammar.specs.meaning.Derivations.{IsLabel, DerivesLabels, DerivesPair, DerivesPairs, DerivesShape}
use Rattle.condition_grammar.proofs.Completing.{label-completes}
use Rattle.condition_grammar.proofs.Deriving.{pattern-took}
use Rattle.condition_grammar.proofs.Edges.{all-with_edge}
use Rattle.conditions.specs.declared.pattern.Pattern.{Pattern}
use Rattle.conditions.specs.declared.pattern.PatternEdge.{PatternEdge}
use Rattle.condition_grammar.proofs.Productions.{OfAtoms, OfTerms, alone-read, bind_ok, chain-keeps, comparison-read, condition_of-read, label-read, more_uses-keeps, neg-read, optional_label-read, term_behind-read, two_labels-read, use_of-read}
use Rattle.condition_grammar.proofs.WrittenTokens.{all_known, knows-form}

-- the names before, with others after them
abbrev pub LeadsTo : Names → Names → Type 0
LeadsTo names after = (more : Names) × (after ≡ names ++ more)

pub stays : (names : Names) → LeadsTo names names
stays names = ([], sym (append-nil names))

pub leads_on : (one two three : Names) → LeadsTo one two → LeadsTo two three → LeadsTo one three
leads_on one two three first second = (first.0 ++ second.0, second.1 ∙ ap (λ ns. ns ++ second.0) first.1 ∙ append_assoc one first.0 second.0)

-- ---- what is known stays known

module _ (names after : Names) (leads : LeadsTo names after) where
  still_label : (l : ℕ) → nat_lt l (length names) ≡ true → nat_lt l (length after) ≡ true
  still_label l known = lt-ltb l (length after) (omega (arith, ltb-true l (length names) known, ap length leads.1, length-append names leads.0))

  still_term : (t : Term) → knows_term names t ≡ true → knows_term after t ≡ true
  still_term (term.Vertices None) known = refl
  still_term (term.Vertices (Some l)) known = still_label l known
  still_term (term.Edges None) known = refl
  still_term (term.Edges (Some l)) known = still_label l known
  still_term (term.Joins l m) known =
      let both = and_parts (nat_lt l (length names)) (nat_lt m (length names)) known in
      and_from _ _ (still_label l both.0) (still_label m both.1)
  still_term term.Kinds known = refl
  still_term term.Degree known = refl
  still_term term.Missing known = refl
  still_term term.Least known = refl

  still_sum : (sum : List Factor) → all_known names sum ≡ true → all_known after sum ≡ true
  still_sum [] known = refl
  still_sum (f ∷ sum) known =
      let both = and_parts (knows_term names f.term) (all_known names sum) known in
      and_from _ _ (still_term f.term both.0) (still_sum sum both.1)

  still_all : {A : Type 0} (p q : A → Bool) → ((x : A) → p x ≡ true → q x ≡ true) → (xs : List A) → list_all p xs ≡ true → list_all q xs ≡ true
  still_all p q still [] all = refl
  still_all p q still (x ∷ xs) all = let both = and_parts (p x) (list_all p xs) all in and_from (q x) _ (still x both.0) (still_all p q still xs both.1)

  still_edge : (e : PatternEdge) → knows_edge names e ≡ true → knows_edge after e ≡ true
  still_edge e known = ⊎_elim (or_left (eqb e.label 0) _) (λ label. or_right (eqb e.label 0) _ (still_label e.label label)) (or_cases (eqb e.label 0) (knows_label names e.label) known)

  still_labels : (labels : List ℕ) → list_all (knows_label names) labels ≡ true → list_all (knows_label after) labels ≡ true
  still_labels = still_all (knows_label names) (knows_label after) still_label

  still_edges : (edges : List PatternEdge) → list_all (knows_edge names) edges ≡ true → list_all (knows_edge after) edges ≡ true
  still_edges = still_all (knows_edge names) (knows_edge after) still_edge

  still_pattern : (s : Pattern) → knows_pattern names s ≡ true → knows_pattern after s ≡ true
  still_pattern s known =
      let both = and_parts (list_all (knows_label names) s.labels) (list_all (knows_edge names) s.edges) known in
      and_from _ _ (still_labels s.labels both.0) (still_edges s.edges both.1)

  pub still_known : (c : Cond) → knows_labels names c ≡ true → knows_labels after c ≡ true
  still_known = by_form (λ c. knows_labels names c ≡ true → knows_labels after c ≡ true)
      (λ known. knows-form form.True after)
      (λ known. knows-form form.False after)
      (λ sum o b known. knows-form (form.Compare sum o b) after ∙ still_sum sum (sym (knows-form (form.Compare sum o b) names) ∙ known))
      (λ c still known. knows-form (form.Not c) after ∙ still (sym (knows-form (form.Not c) names) ∙ known))
      (λ c d still still_too known.
      let both = and_parts (knows_labels names c) (knows_labels names d) (sym (knows-form (form.And c d) names) ∙ known) in
      knows-form (form.And c d) after ∙ and_from _ _ (still both.0) (still_too both.1))
      (λ c d still still_too known.
      let both = and_parts (knows_labels names c) (knows_labels names d) (sym (knows-form (form.Or c d) names) ∙ known) in
      knows-form (form.Or c d) after ∙ and_from _ _ (still both.0) (still_too both.1))
      (λ s known. knows-form (form.Shape s) after ∙ still_pattern s (sym (knows-form (form.Shape s) names) ∙ known))

-- ---- productions

-- what was read is known by the names then, which are those before with others after them
record Known {A : Type 0} (known_by : Names → A → Bool) (names : Names) (x : A × List Token × Names) : Type 0 where
  leads : LeadsTo names x.2
  known : known_by x.2 x.0 ≡ true

abbrev KnowsAll : {A : Type 0} → (Names → A → Bool) → Production A → Type 0
KnowsAll {A} known_by p = (ts : List Token) (names : Names) (x : A × List Token × Names) → p ts names ≡ Ok x → Known known_by names x

label-known : KnowsAll knows_label label
label-known ts names x h =
    let (w, first, same) = label-read ts names x h in
    subst (Known knows_label names) same (by_number w.0 w.1 (number_in names w.0) refl)
  where
    by_number : (w : List ℕ) (rest : List Token) (o : Option ℕ) → number_in names w ≡ o → Known knows_label names ((label_number_by names w o).0, rest, (label_number_by names w o).1)
    by_number w rest (Some n) at = record { leads = stays names; known = lt-ltb n (length names) (position-Some (bytes_eq w) names n [] at).0 }
    by_number w rest None at = record { leads = (w ∷ [], refl); known = lt-ltb (length names) (length (names ++ w ∷ [])) (omega (arith, length-append names (w ∷ []))) }

abbrev knows_option : Names → Option ℕ → Bool
knows_option names None = true
knows_option names (Some l) = knows_label names l

optional-known : KnowsAll knows_option optional_label
optional-known ts names x h =
    ⊎_elim (λ equal. subst (Known knows_option names) equal (record { leads = stays names; known = refl }))
    (λ r. let it = label-known r.start names r.inner r.reads in subst (Known knows_option names) r.is (record { leads = it.leads; known = it.known }))
    (optional_label-read ts names x h)

abbrev knows_two : Names → ℕ × ℕ → Bool
knows_two names p = knows_label names p.0 && knows_label names p.1

two-known : KnowsAll knows_two two_labels
two-known ts names x h =
    let r = two_labels-read ts names x h in
    let one = label-known r.start names r.first r.reads in
    let two = label-known r.middle r.first.2 r.second r.reads_too in
    subst (Known knows_two names) r.is
    (record { leads = leads_on names r.first.2 r.second.2 one.leads two.leads; known = and_from _ _ (still_label r.first.2 r.second.2 two.leads r.first.0 one.known) two.known })

vertices_same : (names : Names) (l : Option ℕ) → knows_term names (term.Vertices l) ≡ knows_option names l
vertices_same names None = refl
vertices_same names (Some l) = refl

edges_same : (names : Names) (l : Option ℕ) → knows_term names (term.Edges l) ≡ knows_option names l
edges_same names None = refl
edges_same names (Some l) = refl

behind-known : (n : TermName) → KnowsAll knows_term (term_after_name n)
behind-known n ts names x = term_behind-read ts names (Known knows_term names) each x n
  where
    plain : (t : Term) → knows_term names t ≡ true → Known knows_term names (t, ts, names)
    plain t known = record { leads = stays names; known = known }

    each : OfTerms ts names (Known knows_term names)
    each = record {
      vertices = λ l read. let it = optional-known ts names l read in record { leads = it.leads; known = vertices_same l.2 l.0 ∙ it.known };
      edges = λ l read. let it = optional-known ts names l read in record { leads = it.leads; known = edges_same l.2 l.0 ∙ it.known };
      joins = λ l read. let it = two-known ts names l read in record { leads = it.leads; known = it.known };
      kinds = plain term.Kinds refl;
      degree = plain term.Degree refl;
      missing = plain term.Missing refl;
      least = plain term.Least refl;
    }

term-known : KnowsAll knows_term term_of
unfolding term_of
term-known ts names x h =
    let (n, named, goes_on) = bind_ok (named_term ts) (λ n. term_after_name n.0 n.1 names) x h in
    behind-known n.0 n.1 names x goes_on

abbrev knows_factor : Names → Factor → Bool
knows_factor names f = knows_term names f.term

use-known : KnowsAll knows_factor use_of
use-known ts names x h =
    let r = use_of-read ts names x h in
    let it = term-known r.times.1 names r.inner r.reads in
    subst (Known knows_factor names) r.is (record { leads = it.leads; known = it.known })

sum-known : KnowsAll all_known sum_of
unfolding sum_of
sum-known ts names x h =
    let (u, used, later) = bind_ok (use_of ts names) (λ u. more_uses (most_factors - 1) (u.0 ∷ []) u.1 u.2) x h in
    let one = use-known ts names u used in
    (more_uses-keeps (λ room y. Known all_known names y) one_more (most_factors - 1) (u.0 ∷ []) u.1 u.2 x (record { leads = one.leads; known = and_from _ _ one.known refl }) later).1
  where
    one_more : (room : ℕ) (sum : List Factor) (now rest : List Token) (held : Names) (u : Factor × List Token × Names) → Known all_known names (sum, now, held) → tokens_after plus now ≡ Some rest → use_of rest held ≡ Ok u
        → Known all_known names (sum ++ u.0 ∷ [], u.1, u.2)
    one_more room sum now rest held u sums next used =
        let one = use-known rest held u used in
        record {
          leads = leads_on names held u.2 sums.leads one.leads;
          known = list_all-append (λ (f : Factor). knows_term u.2 f.term) sum (u.0 ∷ []) ∙ and_from _ _ (still_sum held u.2 one.leads sum sums.known) (and_from _ _ one.known refl);
        }

comparison-known : KnowsAll knows_labels comparison
comparison-known ts names x h =
    let r = comparison-read ts names x h in
    let it = sum-known ts names r.sum r.sums in
    subst (Known knows_labels names) r.is (record { leads = it.leads; known = knows-form (form.Compare r.sum.0 r.op.0 r.limit.0) r.sum.2 ∙ it.known })

-- ---- conditions

-- the names of labels that are derived, and what is known by the names then
record KnownLabels (names after : Names) (labels : List ℕ) : Type 0 where
  leads : LeadsTo names after
  known : list_all (knows_label after) labels ≡ true

record KnownEdges (names after : Names) (edges : List PatternEdge) : Type 0 where
  leads : LeadsTo names after
  known : list_all (knows_edge after) edges ≡ true

one-known : (w : List ℕ) (names : Names) (l : ℕ) (after : Names) → IsLabel w names l after → Known knows_label names (l, [], after)
one-known w names l after is = label-known (word w ∷ []) names (l, [], after) (label-completes w names l after [] is)

labels-known : (ts : List Token) (names : Names) (labels : List ℕ) (after : Names) → DerivesLabels ts names labels after → KnownLabels names after labels
labels-known _ _ _ _ (rule.one_label w names l after is) = let one = one-known w names l after is in record { leads = one.leads; known = and_from _ _ one.known refl }
labels-known _ _ _ _ (rule.more_labels ts w names labels mid l after d few is) =
    let it = labels-known ts names labels mid d in
    let one = one-known w mid l after is in
    record {
      leads = leads_on names mid after it.leads one.leads;
      known = list_all-append (knows_label after) labels (l ∷ []) ∙ and_from _ _ (still_labels mid after one.leads labels it.known) (and_from _ _ one.known refl);
    }

pair-known : (n : ℕ) (edges : List PatternEdge) (ts : List Token) (names : Names) (e : PatternEdge) (after : Names) → DerivesPair n edges ts names e after → LeadsTo names after × (knows_edge after e ≡ true)
pair-known n edges _ _ _ _ (rule.bare_pair one other a b names ends) = (stays names, refl)
pair-known n edges _ _ _ _ (rule.labelled_pair one other a b w names l after ends is) = let it = one-known w names l after is in (it.leads, or_right (eqb l 0) _ it.known)

pairs-known : (n : ℕ) (ts : List Token) (names : Names) (edges : List PatternEdge) (after : Names) → DerivesPairs n ts names edges after → KnownEdges names after edges
pairs-known n _ _ _ _ (rule.one_pair ts names e after d) = let it = pair-known n [] ts names e after d in record { leads = it.0; known = and_from _ _ it.1 refl }
pairs-known n _ _ _ _ (rule.more_pairs ts us names edges mid e after d p) =
    let it = pairs-known n ts names edges mid d in
    let one = pair-known n edges us mid e after p in
    record { leads = leads_on names mid after it.leads one.0; known = all-with_edge (knows_edge after) e edges one.1 (still_edges mid after one.0 edges it.known) }

shape-known : (ts : List Token) (names : Names) (s : Pattern) (after : Names) → DerivesShape ts names s after → LeadsTo names after × (knows_pattern after s ≡ true)
shape-known _ _ _ _ (rule.edgeless ts names labels after d) = let it = labels-known ts names labels after d in (it.leads, and_from _ _ it.known refl)
shape-known _ _ _ _ (rule.with_edges ts us names labels mid edges after d p) =
    let it = labels-known ts names labels mid d in
    let those = pairs-known (length labels) us mid edges after p in
    (leads_on names mid after it.leads those.leads, and_from _ _ (still_labels mid after those.leads labels it.known) those.known)

record KnowsInside (within : Nested) : Type 0 where
  cond : KnowsAll knows_labels within.cond
  neg : KnowsAll knows_labels within.neg

atoms-known : (within : Nested) → KnowsInside within → (ts : List Token) (names : Names) → OfAtoms within ts names (Known knows_labels names)
atoms-known within inner ts names = record {
  always = λ rest is. record { leads = stays names; known = knows-form form.True names };
  never = λ rest is. record { leads = stays names; known = knows-form form.False names };
  group = λ rest x is r. let it = inner.cond rest names r.inner r.reads in subst (Known knows_labels names) r.is (record { leads = it.leads; known = it.known });
  shaped = λ rest s is read.
      let it = pattern-took rest names s read in
      let known = shape-known it.used names s.0 s.2 it.derived in
      record { leads = known.0; known = knows-form (form.Shape s.0) s.2 ∙ known.1 };
  compared = λ x read. comparison-known ts names x read;
}

neg-known : (within : Nested) → KnowsInside within → KnowsAll knows_labels (neg within)
neg-known within inner ts names x h =
    neg-read within ts names (Known knows_labels names) (atoms-known within inner ts names) x
    (λ rest c is read. let it = inner.neg rest names c read in record { leads = it.leads; known = knows-form (form.Not c.0) c.2 ∙ it.known }) h

-- a joint joins two conditions that are known
joint-known : (joint : Joint) (names : Names) (l r : Cond) → knows_labels names l ≡ true → knows_labels names r ≡ true → knows_labels names (joined joint l r) ≡ true
joint-known And names l r left right = knows-form (form.And l r) names ∙ and_from _ _ left right
joint-known Or names l r left right = knows-form (form.Or l r) names ∙ and_from _ _ left right

joined-known : (joint : Joint) (item : Production Cond) → KnowsAll knows_labels item → KnowsAll knows_labels (joined_by joint item)
unfolding joined_by
joined-known joint item items ts first x h =
    let (c, read, later) = bind_ok (item ts first) (λ c. chain joint item (length c.1) c.0 c.1 c.2) x h in
    chain-keeps joint item (Known knows_labels first)
    (λ left ts rest names c held next read.
    let it = items rest names c read in
    record { leads = leads_on first names c.2 held.leads it.leads; known = joint-known joint c.2 left c.0 (still_known names c.2 it.leads left held.known) it.known }) (length c.1) c.0 c.1 c.2 x
    (items ts first c read) later

conj-known : (within : Nested) → KnowsInside within → KnowsAll knows_labels (conj within)
conj-known within inner = joined-known And (neg within) (neg-known within inner)

cond-known : (within : Nested) → KnowsInside within → KnowsAll knows_labels (cond_within within)
cond-known within inner = joined-known Or (conj within) (conj-known within inner)

inside-known : (room : ℕ) → KnowsInside (nested_within room)
unfolding nested_within
inside-known zero = record {
  cond = λ ts names x h. absurd (let no : Err TooDeep ≡ Ok x = h in cc);
  neg = λ ts names x h. absurd (let no : Err TooDeep ≡ Ok x = h in cc);
}
inside-known (suc room) = record {
  cond = cond-known (nested_within room) (inside-known room);
  neg = neg-known (nested_within room) (inside-known room);
}

-- a condition that was read
pub record KnownThen (names : Names) (x : Cond × Names) : Type 0 where
  pub leads : LeadsTo names x.1
  pub known : IsTrue (knows_labels x.1 x.0)

condition-known : (ts : List Token) (names : Names) (x : Cond × Names) → condition ts names ≡ Ok x → KnownThen names x
unfolding condition
condition-known ts names x h =
    let (c, read, ended) = bind_ok (cond_within (nested_within most_depth) ts names) nothing_after x h in
    let it = cond-known (nested_within most_depth) (inside-known most_depth) ts names c read in
    subst (KnownThen names) (alone-read c x ended) (record { leads = it.leads; known = it.known })

pub condition_of-known : (text : List ℕ) (names : Names) (x : Cond × Names) → condition_of text names ≡ Ok x → KnownThen names x
condition_of-known text names x h = let r = condition_of-read text names x h in condition-known r.tokens names x r.reads
