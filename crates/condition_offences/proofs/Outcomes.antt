-- What comes of reading tokens by a production: something is read, the tokens end early, or one of them offends.
use Rattle.std.proofs.Common.{◌≡◌, ℕ, zero, suc, ◌<◌, ◌≤◌, ◌⊎◌, inl, inr, Bool, true, false, if◌then◌else◌, List, [], ◌∷◌, ◌++◌, length, Option, None, Some, Ok, Err, codes, refl, sym, ap, subst, ◌∙◌, arith, append_assoc, append-nil, length-append}
use Rattle.line_fields.specs.meaning.Names.{Names}
use Rattle.condition_grammar.specs.declared.fault.ConditionKind.{ConditionKind}
use Rattle.condition_grammar.specs.declared.fault.ConditionKind.TheVariants.{BadForm, TooDeep}
use Rattle.condition_grammar.specs.meaning.Grammar.{Production, ReadResult, ◌>>=◌, tokens_after}
use Rattle.condition_grammar.specs.meaning.Token.{Token, is_same_token, word, opening}
use Rattle.condition_grammar.proofs.Deriving.{after_is}
use Rattle.condition_grammar.proofs.Productions.{some_same}

abbrev pub Derivation : Type 0 → Type 1
Derivation A = List Token → Names → A → Names → Type 0

-- a production of the reader, and what derives the same
pub record Rule (A : Type 0) : Type 1 where
  pub read : Production A
  pub derives : Derivation A
  -- the same with one `not` or parenthesis more
  pub deeper : Derivation A

-- a rule in which nothing is opened
abbrev pub plain : {A : Type 0} → Production A → Derivation A → Rule A
plain read derives = record { read = read; derives = derives; deeper = derives }

pub record Completable {A : Type 0} (D : Derivation A) (ts : List Token) (names : Names) : Type 0 where
  pub more : List Token
  pub value : A
  pub after : Names
  pub derived : D (ts ++ more) names value after

abbrev pub first_token : List Token → Option Token
first_token [] = None
first_token (t ∷ ts) = Some t

-- the first tokens are read, whatever follows that begins with the same token
pub record Reads {A : Type 0} (R : Rule A) (ts : List Token) (names : Names) : Type 0 where
  pub used : List Token
  pub rest : List Token
  pub value : A
  pub after : Names
  pub split : ts ≡ used ++ rest
  pub derived : R.derives used names value after
  pub whatever_follows : (later : List Token) → first_token later ≡ first_token rest → R.read (used ++ later) names ≡ Ok (value, later, after)

-- the tokens end early
pub record Ends {A : Type 0} (R : Rule A) (ts : List Token) (names : Names) : Type 0 where
  pub refused : R.read ts names ≡ Err BadForm
  pub completable : Completable R.derives ts names

-- the token opens one `not` or parenthesis more than may be
pub record Opens {A : Type 0} (R : Rule A) (prefix : List Token) (token : Token) (names : Names) (kind : ConditionKind) : Type 0 where
  pub is : kind ≡ TooDeep
  pub opens : (token ≡ word (codes "not")) ⊎ (token ≡ opening)
  pub deeper : Completable R.deeper (prefix ++ token ∷ []) names

-- a token offends, whatever stands after it
pub record Offends {A : Type 0} (R : Rule A) (ts : List Token) (names : Names) : Type 0 where
  pub prefix : List Token
  pub token : Token
  pub suffix : List Token
  pub split : ts ≡ prefix ++ token ∷ suffix
  pub kind : ConditionKind
  pub refused : (more : List Token) → R.read (prefix ++ token ∷ more) names ≡ Err kind
  pub completable : Completable R.derives prefix names
  pub why : (kind ≡ BadForm) ⊎ Opens R prefix token names kind

pub data Fails {A : Type 0} (R : Rule A) (ts : List Token) (names : Names) : Type 0 where
  ends : Ends R ts names → Fails R ts names
  offends : Offends R ts names → Fails R ts names

pub data Outcome {A : Type 0} (R : Rule A) (ts : List Token) (names : Names) : Type 0 where
  reads : Reads R ts names → Outcome R ts names
  fails : Fails R ts names → Outcome R ts names

-- ---- the first token

pub first-append : (us a b : List Token) → first_token a ≡ first_token b → first_token (us ++ a) ≡ first_token (us ++ b)
first-append [] a b same = same
first-append (u ∷ us) a b same = refl

pub missed-alike : (t : Token) (a b : List Token) → first_token a ≡ first_token b → tokens_after t b ≡ None → tokens_after t a ≡ None
missed-alike t [] b same missed = refl
missed-alike t (u ∷ a) [] same missed = absurd (let lost : Some u ≡ None = same in cc)
missed-alike t (u ∷ a) (v ∷ b) same missed = by_test (is_same_token u t) (subst (λ w. (if is_same_token w t then Some b else None) ≡ None) (sym (some_same same)) missed)
  where
    by_test : (k : Bool) → (if k then Some b else None) ≡ None → (if k then Some a else None) ≡ None
    by_test true e = absurd (let lost : Some b ≡ None = e in cc)
    by_test false e = refl

-- ---- a rule within another

module _ {A B : Type 0} (P : Rule A) (W : Rule B) (pre : List Token) (names within : Names) where
  -- failures go on
  pub raise : (ts : List Token) → ((us : List Token) (f : ConditionKind) → first_token us ≡ first_token ts → P.read us within ≡ Err f → W.read (pre ++ us) names ≡ Err f)
      → ((us : List Token) → Completable P.derives us within → Completable W.derives (pre ++ us) names)
      → ((us : List Token) → Completable P.deeper us within → Completable W.deeper (pre ++ us) names)
      → Fails P ts within → Fails W (pre ++ ts) names
  raise ts follows embed embed_deeper (ends e) = ends (record { refused = follows ts BadForm refl e.refused; completable = embed ts e.completable })
  raise ts follows embed embed_deeper (offends o) = offends (record {
    prefix = pre ++ o.prefix;
    token = o.token;
    suffix = o.suffix;
    split = ap (λ us. pre ++ us) o.split ∙ sym (append_assoc pre o.prefix (o.token ∷ o.suffix));
    kind = o.kind;
    refused = λ more. ap (λ us. W.read us names) (append_assoc pre o.prefix (o.token ∷ more))
        ∙ follows (o.prefix ++ o.token ∷ more) o.kind (first-append o.prefix (o.token ∷ more) (o.token ∷ o.suffix) refl ∙ ap first_token (sym o.split)) (o.refused more);
    completable = embed o.prefix o.completable;
    why = elim o.why [
      | inl is ↦ inl is
      | inr it ↦ inr (record {
        is = it.is;
        opens = it.opens;
        deeper = subst (λ us. Completable W.deeper us names) (sym (append_assoc pre o.prefix (o.token ∷ []))) (embed_deeper (o.prefix ++ o.token ∷ []) it.deeper);
      })
    ];
  })

  -- what is read is a part of what the other reads
  module _ (change : A → B) (embed : (us : List Token) (a : A) (after : Names) → P.derives us within a after → W.derives (pre ++ us) names (change a) after)
      (embed_deeper : (us : List Token) (a : A) (after : Names) → P.deeper us within a after → W.deeper (pre ++ us) names (change a) after)
    where
      pub prefixed : (ts : List Token) → ((us : List Token) → first_token us ≡ first_token ts → W.read (pre ++ us) names ≡ (P.read us within >>= λ r. Ok (change r.0, r.1, r.2))) → Outcome P ts within → Outcome W (pre ++ ts) names
      prefixed ts is (reads r) = reads (record {
        used = pre ++ r.used;
        rest = r.rest;
        value = change r.value;
        after = r.after;
        split = ap (λ us. pre ++ us) r.split ∙ sym (append_assoc pre r.used r.rest);
        derived = embed r.used r.value r.after r.derived;
        whatever_follows = λ later same. ap (λ us. W.read us names) (append_assoc pre r.used later)
            ∙ is (r.used ++ later) (first-append r.used later r.rest same ∙ ap first_token (sym r.split))
            ∙ ap (λ r. r >>= λ r. Ok (change r.0, r.1, r.2)) (r.whatever_follows later same);
      })
      prefixed ts is (fails f) = fails (raise ts (λ us f same lost. is us same ∙ ap (λ r. r >>= λ r. Ok (change r.0, r.1, r.2)) lost)
          (λ us c. record { more = c.more; value = change c.value; after = c.after; derived = subst (λ vs. W.derives vs names (change c.value) c.after) (sym (append_assoc pre us c.more)) (embed (us ++ c.more) c.value c.after c.derived) })
          (λ us c. record { more = c.more; value = change c.value; after = c.after; derived = subst (λ vs. W.deeper vs names (change c.value) c.after) (sym (append_assoc pre us c.more)) (embed_deeper (us ++ c.more) c.value c.after c.derived) })
          f)

-- one rule after another
abbrev pub followed : {A B : Type 0} → Production A → (A → Production B) → Production B
followed p k ts names = p ts names >>= λ r. k r.0 r.1 r.2

-- what derives one and then the other
pub record Joins {A B : Type 0} (D : Derivation A) (E : A → Derivation B) (F : Derivation B) : Type 0 where
  pub join : (us vs : List Token) (names : Names) (a : A) (mid : Names) (b : B) (after : Names) → D us names a mid → E a vs mid b after → F (us ++ vs) names b after

module _ {A B : Type 0} (P : Rule A) (K : A → Rule B) (W : Rule B)
    (is : (ts : List Token) (names : Names) → W.read ts names ≡ followed P.read (λ a. (K a).read) ts names)
    (joins : Joins P.derives (λ a. (K a).derives) W.derives)
    (joins_first : Joins P.deeper (λ a. (K a).derives) W.deeper)
    (joins_second : Joins P.derives (λ a. (K a).deeper) W.deeper)
    (fill : (us : List Token) (names : Names) (a : A) (mid : Names) → P.derives us names a mid → Completable (K a).derives [] mid)
    (fill_deeper : (us : List Token) (names : Names) (a : A) (mid : Names) → P.deeper us names a mid → Completable (K a).derives [] mid)
  where
    pub sequence : (ts : List Token) (names : Names) → Outcome P ts names → ((r : Reads P ts names) → Outcome (K r.value) r.rest r.after) → Outcome W ts names
    sequence ts names (fails f) next = fails (raise P W [] names names ts
        (λ us f same lost. is us names ∙ ap (λ r. r >>= λ r. (K r.0).read r.1 r.2) lost)
        (λ us c.
        let more = fill (us ++ c.more) names c.value c.after c.derived in
        record {
          more = c.more ++ more.more;
          value = more.value;
          after = more.after;
          derived = subst (λ vs. W.derives vs names more.value more.after) (append_assoc us c.more more.more) (joins.join (us ++ c.more) more.more names c.value c.after more.value more.after c.derived more.derived);
        })
        (λ us c.
        let more = fill_deeper (us ++ c.more) names c.value c.after c.derived in
        record {
          more = c.more ++ more.more;
          value = more.value;
          after = more.after;
          derived = subst (λ vs. W.deeper vs names more.value more.after) (append_assoc us c.more more.more) (joins_first.join (us ++ c.more) more.more names c.value c.after more.value more.after c.derived more.derived);
        })
        f)
    sequence ts names (reads r) next = then_next (next r)
      where
        then_next : Outcome (K r.value) r.rest r.after → Outcome W ts names
        then_next (reads s) = reads (record {
          used = r.used ++ s.used;
          rest = s.rest;
          value = s.value;
          after = s.after;
          split = r.split ∙ ap (λ us. r.used ++ us) s.split ∙ sym (append_assoc r.used s.used s.rest);
          derived = joins.join r.used s.used names r.value r.after s.value s.after r.derived s.derived;
          whatever_follows = λ later same. ap (λ us. W.read us names) (append_assoc r.used s.used later)
              ∙ is (r.used ++ (s.used ++ later)) names
              ∙ ap (λ r. r >>= λ r. (K r.0).read r.1 r.2) (r.whatever_follows (s.used ++ later) (first-append s.used later s.rest same ∙ ap first_token (sym s.split)))
              ∙ s.whatever_follows later same;
        })
        then_next (fails f) = fails (subst (λ us. Fails W us names) (sym r.split) (raise (K r.value) W r.used names r.after r.rest
            (λ us f same lost. is (r.used ++ us) names ∙ ap (λ r. r >>= λ r. (K r.0).read r.1 r.2) (r.whatever_follows us same) ∙ lost)
            (λ us c. record { more = c.more; value = c.value; after = c.after; derived = subst (λ vs. W.derives vs names c.value c.after) (sym (append_assoc r.used us c.more)) (joins.join r.used (us ++ c.more) names r.value r.after c.value c.after r.derived c.derived) })
            (λ us c. record { more = c.more; value = c.value; after = c.after; derived = subst (λ vs. W.deeper vs names c.value c.after) (sym (append_assoc r.used us c.more)) (joins_second.join r.used (us ++ c.more) names r.value r.after c.value c.after r.derived c.derived) })
            f))

-- ---- items with a separator

-- nothing can be read
abbrev pub Blocked : {A : Type 0} → Rule A → Type 0
Blocked R = (ts : List Token) (names : Names) → R.read ts names ≡ Err BadForm

-- How items with a separator are read: the first one, and then each after those so far.
pub record Listing {S : Type 0} (separator : Token) (first : Rule S) (item : S → Rule S) (all : Rule S) : Type 1 where
  -- what is left to read after those so far gives the result
  pub Goes : S → Names → List Token → ReadResult S → Type 0
  pub stop : (s : S) (names : Names) (ts : List Token) (r : ReadResult S) → Goes s names ts r → tokens_after separator ts ≡ None → r ≡ Ok (s, ts, names)
  pub more : (s : S) (names : Names) (us : List Token) (r : ReadResult S) (t : S) (rest : List Token) (after : Names) → Goes s names (separator ∷ us) r → (item s).read us names ≡ Ok (t, rest, after) → length rest ≤ length us → Goes t after rest r
  pub fail : (s : S) (names : Names) (us : List Token) (r : ReadResult S) (f : ConditionKind) → Goes s names (separator ∷ us) r → (item s).read us names ≡ Err f → r ≡ Err f
  pub begin : (ts : List Token) (names : Names) (s : S) (rest : List Token) (after : Names) → first.read ts names ≡ Ok (s, rest, after) → Goes s after rest (all.read ts names)
  pub begin_fail : (ts : List Token) (names : Names) (f : ConditionKind) → first.read ts names ≡ Err f → all.read ts names ≡ Err f
  pub one : (us : List Token) (names : Names) (s : S) (after : Names) → first.derives us names s after → all.derives us names s after
  pub one_deeper : (us : List Token) (names : Names) (s : S) (after : Names) → first.deeper us names s after → all.deeper us names s after
  pub join : (us vs : List Token) (names : Names) (s : S) (mid : Names) (t : S) (after : Names) → all.derives us names s mid → (item s).derives vs mid t after → all.derives (us ++ separator ∷ vs) names t after
  pub join_deeper : (us vs : List Token) (names : Names) (s : S) (mid : Names) (t : S) (after : Names) → all.derives us names s mid → (item s).deeper vs mid t after → all.deeper (us ++ separator ∷ vs) names t after
  -- one more can be read or not
  pub each : (us : List Token) (names : Names) (s : S) (mid : Names) → all.derives us names s mid → (ts : List Token) → Blocked (item s) ⊎ Outcome (item s) ts mid

module _ {S : Type 0} (separator : Token) (first : Rule S) (item : S → Rule S) (all : Rule S) (way : Listing separator first item all) (names : Names) where
  record GoesOn (used ts : List Token) (s : S) (mid : Names) : Type 0 where
    derived : all.derives used names s mid
    goes : (us : List Token) → first_token us ≡ first_token ts → way.Goes s mid us (all.read (used ++ us) names)

  abbrev Again : ℕ → Type 0
  Again fuel = (used ts : List Token) (s : S) (mid : Names) → length ts < fuel → GoesOn used ts s mid → Outcome all (used ++ ts) names

  step_item : (fuel : ℕ) → Again fuel → (used rest : List Token) (s : S) (mid : Names) → length rest < fuel → GoesOn used (separator ∷ rest) s mid → Blocked (item s) ⊎ Outcome (item s) rest mid → Outcome all (used ++ separator ∷ rest) names
  step_item fuel again used rest s mid short on (inl blocked) = fails (offends (record {
    prefix = used;
    token = separator;
    suffix = rest;
    split = refl;
    kind = BadForm;
    refused = λ us. way.fail s mid us (all.read (used ++ separator ∷ us) names) BadForm (on.goes (separator ∷ us) refl) (blocked us mid);
    completable = record { more = []; value = s; after = mid; derived = subst (λ us. all.derives us names s mid) (sym (append-nil used)) on.derived };
    why = inl refl;
  }))
  step_item fuel again used rest s mid short on (inr (reads r)) =
      subst (λ us. Outcome all us names) (append_assoc used (separator ∷ r.used) r.rest ∙ ap (λ us. used ++ separator ∷ us) (sym r.split))
      (again (used ++ separator ∷ r.used) r.rest r.value r.after (omega (arith, ap length r.split, length-append r.used r.rest)) (record {
        derived = way.join used r.used names s mid r.value r.after on.derived r.derived;
        goes = λ us same. subst (λ vs. way.Goes r.value r.after us (all.read vs names)) (sym (append_assoc used (separator ∷ r.used) us))
            (way.more s mid (r.used ++ us) (all.read (used ++ separator ∷ (r.used ++ us)) names) r.value us r.after (on.goes (separator ∷ (r.used ++ us)) refl) (r.whatever_follows us same) (omega (arith, length-append r.used us)));
      }))
  step_item fuel again used rest s mid short on (inr (fails f)) =
      let pre = used ++ separator ∷ [] in
      subst (λ us. Outcome all us names) (append_assoc used (separator ∷ []) rest)
      (fails (raise (item s) all pre names mid rest
      (λ us f same lost. ap (λ vs. all.read vs names) (append_assoc used (separator ∷ []) us) ∙ way.fail s mid us (all.read (used ++ separator ∷ us) names) f (on.goes (separator ∷ us) refl) lost)
      (λ us c. record { more = c.more; value = c.value; after = c.after; derived = subst (λ vs. all.derives vs names c.value c.after) (sym (ap (λ vs. vs ++ c.more) (append_assoc used (separator ∷ []) us) ∙ append_assoc used (separator ∷ us) c.more)) (way.join used (us ++ c.more) names s mid c.value c.after on.derived c.derived) })
      (λ us c. record { more = c.more; value = c.value; after = c.after; derived = subst (λ vs. all.deeper vs names c.value c.after) (sym (ap (λ vs. vs ++ c.more) (append_assoc used (separator ∷ []) us) ∙ append_assoc used (separator ∷ us) c.more)) (way.join_deeper used (us ++ c.more) names s mid c.value c.after on.derived c.derived) })
      f))

  step : (fuel : ℕ) → Again fuel → (used ts : List Token) (s : S) (mid : Names) → length ts ≤ fuel → GoesOn used ts s mid → Outcome all (used ++ ts) names
  step fuel again used ts s mid short on = by_next (tokens_after separator ts) refl
    where
      by_next : (o : Option (List Token)) → tokens_after separator ts ≡ o → Outcome all (used ++ ts) names
      by_next None e = reads (record {
        used = used;
        rest = ts;
        value = s;
        after = mid;
        split = refl;
        derived = on.derived;
        whatever_follows = λ later same. way.stop s mid later (all.read (used ++ later) names) (on.goes later same) (missed-alike separator later ts same e);
      })
      by_next (Some rest) e =
          let is = after_is separator ts rest e in
          subst (λ us. Outcome all (used ++ us) names) (sym is)
          (step_item fuel again used rest s mid (omega (arith, ap length is)) (record { derived = on.derived; goes = λ us same. on.goes us (same ∙ ap first_token (sym is)) }) (way.each used names s mid on.derived rest))

  items : (fuel : ℕ) (used ts : List Token) (s : S) (mid : Names) → length ts ≤ fuel → GoesOn used ts s mid → Outcome all (used ++ ts) names
  items zero = step zero (λ used ts s mid short on. absurd (omega arith))
  items (suc fuel) = step (suc fuel) (λ used ts s mid short on. items fuel used ts s mid (omega arith) on)

  pub listed : (ts : List Token) → Outcome first ts names → Outcome all ts names
  listed ts (fails f) = fails (raise first all [] names names ts
      (λ us f same lost. way.begin_fail us names f lost)
      (λ us c. record { more = c.more; value = c.value; after = c.after; derived = way.one (us ++ c.more) names c.value c.after c.derived })
      (λ us c. record { more = c.more; value = c.value; after = c.after; derived = way.one_deeper (us ++ c.more) names c.value c.after c.derived })
      f)
  listed ts (reads r) = subst (λ us. Outcome all us names) (sym r.split) (items (length r.rest) r.used r.rest r.value r.after (omega arith) (record {
    derived = way.one r.used names r.value r.after r.derived;
    goes = λ us same. way.begin (r.used ++ us) names r.value us r.after (r.whatever_follows us same);
  }))
