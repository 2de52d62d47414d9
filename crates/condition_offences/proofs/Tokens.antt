-- What comes of reading a single token, and of items of which there are so many at most.
use Rattle.std.proofs.Common.{◌≡◌, ℕ, ◌-◌, ◌<◌, ◌≤◌, ◌⊎◌, inl, inr, Bool, true, false, cond, if◌then◌else◌, nat_lt, List, [], ◌∷◌, ◌++◌, length, Option, None, Some, Result, Ok, Err, codes, refl, sym, ap, subst, ◌∙◌, arith}
use Rattle.std.proofs.lemmas.Bool.{lt-ltb, ltb-false, ltb-true}
use Rattle.std.specs.Option.{option_map}
use Rattle.line_fields.specs.meaning.Fields.{is_label_word}
use Rattle.line_fields.specs.meaning.Names.{Names}
use Rattle.condition_grammar.specs.declared.fault.ConditionKind.{ConditionKind}
use Rattle.condition_grammar.specs.declared.fault.ConditionKind.TheVariants.{BadForm}
use Rattle.condition_grammar.specs.meaning.Derivations.{IsLabel}
use Rattle.condition_grammar.specs.meaning.Grammar.{Production, ReadResult, ◌>>=◌, first_of, label, label_number, more_items, or_bad_form, tokens_after, tokens_past}
use Rattle.condition_grammar.specs.meaning.Token.{Token, is_same_token, word}
use Rattle.condition_grammar.proofs.Chaining.{items-fail, items-more, items-stop}
use Rattle.condition_grammar.proofs.Completing.{label-completes}
use Rattle.condition_grammar.proofs.Deriving.{after_is}
use Rattle.condition_grammar.proofs.Productions.{bind_ok, ok_same, some_same}
use Rattle.condition_offences.proofs.Outcomes.{Blocked, Completable, Derivation, Joins, Listing, Outcome, Rule, ends, fails, first_token, missed-alike, offends, plain, prefixed, reads, sequence}

-- ---- results

pub then_same : {A : Type 0} (r : ReadResult A) → (r >>= λ x. Ok (x.0, x.1, x.2)) ≡ r
then_same (Ok x) = refl
then_same (Err f) = refl

pub then_then : {A B C E : Type 0} (r : Result A E) (f : A → Result B E) (g : B → Result C E) → (r >>= f >>= g) ≡ (r >>= λ x. f x >>= g)
then_then (Ok x) f g = refl
then_then (Err e) f g = refl

pub err_same : {A E : Type 0} {e f : E} → ◌≡◌ {A = Result A E} (Err e) (Err f) → e ≡ f
err_same h = cc

abbrev pub with_rest : {A : Type 0} → List Token → A → A × List Token
with_rest ts x = (x, ts)

-- what fails at the first token fails whatever stands after it
pub offends_first : {A : Type 0} (R : Rule A) (t : Token) (ts : List Token) (names : Names) → ((more : List Token) → R.read (t ∷ more) names ≡ Err BadForm) → Completable R.derives [] names → Outcome R (t ∷ ts) names
offends_first R t ts names refused completable =
    fails (offends (record { prefix = []; token = t; suffix = ts; split = refl; kind = BadForm; refused = refused; completable = completable; why = inl refl }))

-- the same at the second
pub offends_second : {A : Type 0} (R : Rule A) (t u : Token) (ts : List Token) (names : Names) → ((more : List Token) → R.read (t ∷ u ∷ more) names ≡ Err BadForm) → Completable R.derives (t ∷ []) names → Outcome R (t ∷ u ∷ ts) names
offends_second R t u ts names refused completable =
    fails (offends (record { prefix = t ∷ []; token = u; suffix = ts; split = refl; kind = BadForm; refused = refused; completable = completable; why = inl refl }))

-- ---- a token that has to come

abbrev pub IsToken : {A : Type 0} → Token → A → Derivation A
IsToken t x us names y after = (us ≡ t ∷ []) × (y ≡ x) × (after ≡ names)

abbrev pub pass : {A : Type 0} → Token → A → Rule A
pass t x = plain (λ ts names. tokens_past t ts >>= λ rest. Ok (x, rest, names)) (IsToken t x)

pub passes-more : {A : Type 0} (t : Token) (x : A) (names : Names) → Completable (IsToken t x) [] names
passes-more t x names = record { more = t ∷ []; value = x; after = names; derived = (refl, refl, refl) }

found_again : (t : Token) (ts rest later : List Token) → tokens_after t ts ≡ Some rest → tokens_after t (t ∷ later) ≡ Some later
found_again t ts rest later found = by_test (is_same_token t t) (subst (λ us. tokens_after t us ≡ Some rest) (after_is t ts rest found) found)
  where
    by_test : (k : Bool) → (if k then Some rest else None) ≡ Some rest → (if k then Some later else None) ≡ Some later
    by_test true e = refl
    by_test false e = absurd (let lost : None ≡ Some rest = e in cc)

pub passes : {A : Type 0} (t : Token) (x : A) (ts : List Token) (names : Names) → Outcome (pass t x) ts names
passes t x [] names = fails (ends (record { refused = refl; completable = passes-more t x names }))
passes {A} t x (u ∷ ts) names = by_next (tokens_after t (u ∷ ts)) refl
  where
    by_next : (o : Option (List Token)) → tokens_after t (u ∷ ts) ≡ o → Outcome (pass t x) (u ∷ ts) names
    by_next None e = offends_first (pass t x) u ts names (λ more. ap (λ o. or_bad_form o >>= λ rest. Ok (x, rest, names)) (missed-alike t (u ∷ more) (u ∷ ts) refl e)) (passes-more t x names)
    by_next (Some rest) e = reads (record {
      used = t ∷ [];
      rest = rest;
      value = x;
      after = names;
      split = after_is t (u ∷ ts) rest e;
      derived = (refl, refl, refl);
      whatever_follows = λ later same. ap (λ o. or_bad_form o >>= λ rest. Ok (x, rest, names)) (found_again t (u ∷ ts) rest later e);
    })

-- a token, and then more
module _ {B : Type 0} (t : Token) (p : Production B) (D E : Derivation B)
    (join : (us : List Token) (names : Names) (b : B) (after : Names) → D us names b after → E (t ∷ us) names b after)
    (fill : (names : Names) → Completable D [] names)
    (next : (ts : List Token) (names : Names) → Outcome (plain p D) ts names)
  where
    abbrev after_token : Production B
    after_token ts names = tokens_past t ts >>= λ rest. p rest names

    abbrev nothing : Unit {0}
    nothing = tt

    joins : Joins (IsToken t nothing) (λ _. D) E
    joins = record {
      join = λ us vs names a mid b after one d.
          subst (λ ws. E (ws ++ vs) names b after) (sym one.0) (join vs names b after (subst (λ ns. D vs ns b after) one.2 d));
    }

    pub token_first : (ts : List Token) (names : Names) → Outcome (plain after_token E) ts names
    token_first ts names = sequence (pass t nothing) (λ _. plain p D) (plain after_token E)
        (λ ts names. sym (then_then (tokens_past t ts) (λ rest. Ok (nothing, rest, names)) (λ r. p r.1 r.2)))
        joins joins joins (λ us names a mid one. fill mid) (λ us names a mid one. fill mid) ts names (passes t nothing ts names) (λ r. next r.rest r.after)

-- this token, and then what derives the rest
abbrev pub TokenThen : {A : Type 0} → Token → Derivation A → Derivation A
TokenThen t D us names x after = (vs : List Token) × (us ≡ t ∷ vs) × D vs names x after

pub then_first : {B : Type 0} (t : Token) (p : Production B) (D : Derivation B) → ((names : Names) → Completable D [] names) → ((ts : List Token) (names : Names) → Outcome (plain p D) ts names)
    → (ts : List Token) (names : Names) → Outcome (plain (λ ts names. tokens_past t ts >>= λ rest. p rest names) (TokenThen t D)) ts names
then_first t p D fill next = token_first t p D (TokenThen t D) (λ us names b after d. (us, refl, d)) fill next

pub then-more : {B : Type 0} (t : Token) (D : Derivation B) (names : Names) → Completable D [] names → Completable (TokenThen t D) [] names
then-more t D names c = record { more = t ∷ c.more; value = c.value; after = c.after; derived = (c.more, refl, c.derived) }

-- no word, number or sign at the start
pub no_kind-alike : {A : Type 0} (kind : Token → Option A) (a b : List Token) → first_token a ≡ first_token b → first_of kind b ≡ None → first_of kind a ≡ None
no_kind-alike kind [] b same lost = refl
no_kind-alike kind (u ∷ a) [] same lost = absurd (let e : Some u ≡ None = same in cc)
no_kind-alike {A} kind (u ∷ a) (v ∷ b) same lost = by_kind (kind u) (subst (λ w. option_map (with_rest b) (kind w) ≡ None) (sym (some_same same)) lost)
  where
    by_kind : (o : Option A) → option_map (with_rest b) o ≡ None → option_map (with_rest a) o ≡ None
    by_kind None e = refl
    by_kind (Some x) e = absurd (let e : Some (with_rest b x) ≡ None = e in cc)

-- ---- labels

pub record Labelled (us : List Token) (names : Names) (l : ℕ) (after : Names) : Type 0 where
  pub text : List ℕ
  pub is : us ≡ word text ∷ []
  pub labels : IsLabel text names l after

abbrev pub label_rule : Rule ℕ
label_rule = plain label Labelled

pub is_labelled : (w : List ℕ) (names : Names) → is_label_word w ≡ true → IsLabel w names (label_number names w).0 (label_number names w).1
is_labelled w names form = record { in_form = form; numbered = refl }

pub label-more : (names : Names) → Completable Labelled [] names
label-more names = record {
  more = word (codes "a") ∷ [];
  value = (label_number names (codes "a")).0;
  after = (label_number names (codes "a")).1;
  derived = record { text = codes "a"; is = refl; labels = is_labelled (codes "a") names refl };
}

label-refused : (w : List ℕ) (ts : List Token) (names : Names) → is_label_word w ≡ false → label (word w ∷ ts) names ≡ Err BadForm
unfolding label
label-refused w ts names form = ap (λ b. cond b (Ok ((label_number names w).0, ts, (label_number names w).1)) (Err BadForm)) form

pub label-outcome : (ts : List Token) (names : Names) → Outcome label_rule ts names
unfolding label
label-outcome [] names = fails (ends (record { refused = refl; completable = label-more names }))
label-outcome (word w ∷ ts) names = by_form (is_label_word w) refl
  where
    by_form : (b : Bool) → is_label_word w ≡ b → Outcome label_rule (word w ∷ ts) names
    by_form true e = reads (record {
      used = word w ∷ [];
      rest = ts;
      value = (label_number names w).0;
      after = (label_number names w).1;
      split = refl;
      derived = record { text = w; is = refl; labels = is_labelled w names e };
      whatever_follows = λ later same. label-completes w names (label_number names w).0 (label_number names w).1 later (is_labelled w names e);
    })
    by_form false e = offends_first label_rule (word w) ts names (λ more. label-refused w more names e) (label-more names)
label-outcome (t ∷ ts) names = offends_first label_rule t ts names (λ more. refl) (label-more names)

-- ---- a list that grows, up to so many

abbrev pub limited : {A : Type 0} → ℕ → Production A → List A → Production (List A)
limited most p so_far ts names = if nat_lt (length so_far) most then (p ts names >>= λ x. Ok (so_far ++ x.0 ∷ [], x.1, x.2)) else Err BadForm

-- one more after those so far
pub record OneMore {A : Type 0} (most : ℕ) (D : Derivation A) (so_far : List A) (us : List Token) (names : Names) (later : List A) (after : Names) : Type 0 where
  pub few : length so_far < most
  pub value : A
  pub is : so_far ++ value ∷ [] ≡ later
  pub derived : D us names value after

abbrev pub limited_rule : {A : Type 0} → ℕ → Production A → Derivation A → List A → Rule (List A)
limited_rule most p D so_far = plain (limited most p so_far) (OneMore most D so_far)

module _ {A : Type 0} (most : ℕ) (p : Production A) where
  abbrev extended : List A → A × List Token × Names → ReadResult (List A)
  extended so_far x = Ok (so_far ++ x.0 ∷ [], x.1, x.2)

  pub limited-is : (so_far : List A) (b : Bool) (ts : List Token) (names : Names) → nat_lt (length so_far) most ≡ b → limited most p so_far ts names ≡ (if b then (p ts names >>= extended so_far) else Err BadForm)
  limited-is so_far b ts names e = ap (λ (b : Bool). if b then (p ts names >>= extended so_far) else Err BadForm) e

  module _ (D : Derivation A) (outcome : (ts : List Token) (names : Names) → Outcome (plain p D) ts names) where
    pub limited-within : (so_far : List A) → length so_far < most → (ts : List Token) (names : Names) → Outcome (limited_rule most p D so_far) ts names
    limited-within so_far few ts names =
        prefixed (plain p D) (limited_rule most p D so_far) [] names names (λ a. so_far ++ a ∷ []) (embed so_far few names) (embed so_far few names) ts (λ us same. limited-is so_far true us names (lt-ltb (length so_far) most few)) (outcome ts names)
      where
        embed : (so_far : List A) → length so_far < most → (names : Names) (us : List Token) (a : A) (after : Names) → D us names a after → OneMore most D so_far us names (so_far ++ a ∷ []) after
        embed so_far few names us a after d = record { few = few; value = a; is = refl; derived = d }

    pub limited-outcome : (so_far : List A) (ts : List Token) (names : Names) → Blocked (limited_rule most p D so_far) ⊎ Outcome (limited_rule most p D so_far) ts names
    limited-outcome so_far ts names = by_test (nat_lt (length so_far) most) refl
      where
        by_test : (b : Bool) → nat_lt (length so_far) most ≡ b → Blocked (limited_rule most p D so_far) ⊎ Outcome (limited_rule most p D so_far) ts names
        by_test true e = inr (limited-within so_far (ltb-true (length so_far) most e) ts names)
        by_test false e = inl (λ ts names. limited-is so_far false ts names e)

  -- what is read of one more
  pub limited-ok : (so_far later : List A) (ts rest : List Token) (names after : Names) → limited most p so_far ts names ≡ Ok (later, rest, after)
      → (x : A) × (length so_far < most) × (p ts names ≡ Ok (x, rest, after)) × (so_far ++ x ∷ [] ≡ later)
  limited-ok so_far later ts rest names after h = by_test (nat_lt (length so_far) most) refl
    where
      by_test : (b : Bool) → nat_lt (length so_far) most ≡ b → (x : A) × (length so_far < most) × (p ts names ≡ Ok (x, rest, after)) × (so_far ++ x ∷ [] ≡ later)
      by_test true e =
          let (x, read, done) = bind_ok (p ts names) (extended so_far) (later, rest, after) (sym (limited-is so_far true ts names e) ∙ h) in
          let same : (so_far ++ x.0 ∷ [], x.1, x.2) ≡ (later, rest, after) = ok_same done in (
            x.0,
            ltb-true (length so_far) most e,
            read ∙ ap (λ (y : List A × List Token × Names). Ok (x.0, y.1, y.2)) same,
            ap (λ (y : List A × List Token × Names). y.0) same,
          )
      by_test false e = absurd (let lost : ◌≡◌ {A = ReadResult (List A)} (Err BadForm) (Ok (later, rest, after)) = sym (limited-is so_far false ts names e) ∙ h in cc)

  pub limited-err : (so_far : List A) (ts : List Token) (names : Names) (f : ConditionKind) → limited most p so_far ts names ≡ Err f
      → ((most ≤ length so_far) × (f ≡ BadForm)) ⊎ ((length so_far < most) × (p ts names ≡ Err f))
  limited-err so_far ts names f h = by_test (nat_lt (length so_far) most) refl
    where
      passed_on : (r : ReadResult A) → (r >>= extended so_far) ≡ Err f → r ≡ Err f
      passed_on (Ok x) e = absurd (let no_error : ◌≡◌ {A = ReadResult (List A)} (Ok (so_far ++ x.0 ∷ [], x.1, x.2)) (Err f) = e in cc)
      passed_on (Err g) e = ap Err (err_same e)

      by_test : (b : Bool) → nat_lt (length so_far) most ≡ b → ((most ≤ length so_far) × (f ≡ BadForm)) ⊎ ((length so_far < most) × (p ts names ≡ Err f))
      by_test true e = inr (ltb-true (length so_far) most e, passed_on (p ts names) (sym (limited-is so_far true ts names e) ∙ h))
      by_test false e = inl (ltb-false (length so_far) most e, err_same (sym h ∙ limited-is so_far false ts names e))

-- ---- items that are read in turns

module _ {S : Type 0} (separator : Token) (itself : is_same_token separator separator ≡ true) (first : Rule S) (item : S → Rule S) (all : Rule S) where
  abbrev read_item : S → Production S
  read_item s = (item s).read

  abbrev left_of : S × List Token × Names → ReadResult S
  left_of l = more_items separator read_item (length l.1) l.0 l.1 l.2

  next_is : (us : List Token) → tokens_after separator (separator ∷ us) ≡ Some us
  next_is us = ap (λ (b : Bool). if b then Some us else None) itself

  -- what derives items, with_rest how they are read
  pub record Items : Type 1 where
    pub is : (ts : List Token) (names : Names) → all.read ts names ≡ (first.read ts names >>= left_of)
    pub one : (us : List Token) (names : Names) (s : S) (after : Names) → first.derives us names s after → all.derives us names s after
    pub one_deeper : (us : List Token) (names : Names) (s : S) (after : Names) → first.deeper us names s after → all.deeper us names s after
    pub join : (us vs : List Token) (names : Names) (s : S) (mid : Names) (t : S) (after : Names) → all.derives us names s mid → (item s).derives vs mid t after → all.derives (us ++ separator ∷ vs) names t after
    pub join_deeper : (us vs : List Token) (names : Names) (s : S) (mid : Names) (t : S) (after : Names) → all.derives us names s mid → (item s).deeper vs mid t after → all.deeper (us ++ separator ∷ vs) names t after
    pub each : (us : List Token) (names : Names) (s : S) (mid : Names) → all.derives us names s mid → (ts : List Token) → Blocked (item s) ⊎ Outcome (item s) ts mid

  pub in_turns : Items → Listing separator first item all
  in_turns it = record {
    Goes = λ s names ts r. (turns : ℕ) × (length ts ≤ turns) × (r ≡ more_items separator read_item turns s ts names);
    stop = λ s names ts r g missed. g.2 ∙ items-stop separator read_item g.0 s ts names missed;
    more = λ s names us r t rest after g read short. (
      g.0 - 1,
      omega (arith, g.1),
      g.2 ∙ items-more separator read_item g.0 s t (separator ∷ us) us rest names after g.1 (next_is us) read,
    );
    fail = λ s names us r f g lost. g.2 ∙ items-fail separator read_item g.0 s (separator ∷ us) us names f g.1 (next_is us) lost;
    begin = λ ts names s rest after read. (length rest, omega arith, it.is ts names ∙ ap (λ r. r >>= left_of) read);
    begin_fail = λ ts names f lost. it.is ts names ∙ ap (λ r. r >>= left_of) lost;
    one = it.one;
    one_deeper = it.one_deeper;
    join = it.join;
    join_deeper = it.join_deeper;
    each = it.each;
  }
