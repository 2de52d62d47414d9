-- What comes of reading conditions.
use Rattle.std.proofs.Common.{◌≡◌, ℕ, zero, suc, ◌≤◌, inl, inr, true, max, List, [], ◌∷◌, ◌++◌, length, Option, None, Some, Ok, codes, refl, sym, ap, subst, ◌∙◌, arith}
use Rattle.line_fields.specs.meaning.Names.{Names}
use Rattle.conditions.specs.declared.condition.Cond.{Cond}
use Rattle.conditions.specs.declared.condition.Cond.TheOpen as form
use Rattle.conditions.specs.declared.condition.Cond.TheViews.{roll-Cond}
use Rattle.conditions.specs.declared.pattern.Pattern.{Pattern}
use Rattle.condition_grammar.specs.declared.fault.ConditionKind.TheVariants.{TooDeep}
use Rattle.condition_grammar.specs.meaning.Derivations as rule
use Rattle.condition_grammar.specs.meaning.Derivations.{Derives, Phrase}
use Rattle.condition_grammar.specs.meaning.Grammar.{Nested, Production, ReadResult, ◌>>=◌, atom, comparison, cond_in_parentheses, cond_within, conj, if_present, joined_by, more_items, neg, nested_within, pattern_of, tokens_after, tokens_past}
use Rattle.condition_grammar.specs.meaning.Token.{Token, is_same_token, word, number, opening, closing, op}
use Rattle.condition_grammar.proofs.Deriving.{after_is}
use Rattle.condition_offences.proofs.Outcomes.{Completable, Joins, Outcome, Rule, fails, first_token, listed, missed-alike, offends, plain, prefixed, reads, sequence}
use Rattle.condition_offences.proofs.Shapes.{DerivesPattern, pattern-derives, pattern-outcome}
use Rattle.condition_offences.proofs.Terms.{Compared, comparison-outcome}
use Rattle.condition_offences.proofs.Tokens.{Items, IsToken, in_turns, pass, passes, passes-more, then_same}

-- the tokens derive the condition with no more than so many `not` and parentheses open at once
pub record Within (p : Phrase) (room : ℕ) (us : List Token) (names : Names) (c : Cond) (after : Names) : Type 0 where
  pub depth : ℕ
  pub shallow : depth ≤ room
  pub derived : Derives p us depth names c after

abbrev pub phrase_rule : Phrase → Production Cond → ℕ → Rule Cond
phrase_rule p read room = record { read = read; derives = Within p room; deeper = Within p (suc room) }

-- ---- operands with a joint between them

abbrev pub join_with : (Cond → Cond → Cond) → Production Cond → Cond → Production Cond
join_with joined item left ts names = item ts names >>= λ c. Ok (joined left c.0, c.1, c.2)

abbrev pub chain_of : Token → (Cond → Cond → Cond) → Production Cond → Production Cond
chain_of t joined item ts names = item ts names >>= λ c. more_items t (join_with joined item) (length c.1) c.0 c.1 c.2

-- how a joint's operands are derived
record Joint (t : Token) (joined : Cond → Cond → Cond) (operand operands : Phrase) : Type 0 where
  itself : is_same_token t t ≡ true
  first : (ts : List Token) (depth : ℕ) (names : Names) (c : Cond) (after : Names) → Derives operand ts depth names c after → Derives operands ts depth names c after
  more : (ts us : List Token) (d e : ℕ) (names : Names) (a : Cond) (mid : Names) (b : Cond) (after : Names) → Derives operands ts d names a mid → Derives operand us e mid b after → Derives operands (ts ++ t ∷ us) (max d e) names (joined a b) after

module _ (t : Token) (joined : Cond → Cond → Cond) (operand operands : Phrase) (joint : Joint t joined operand operands) (item all : Production Cond) (room : ℕ)
    (is : (ts : List Token) (names : Names) → all ts names ≡ chain_of t joined item ts names)
    (outcome : (ts : List Token) (names : Names) → Outcome (phrase_rule operand item room) ts names)
  where
    -- one operand more
    record Operand (most : ℕ) (left : Cond) (us : List Token) (names : Names) (c : Cond) (after : Names) : Type 0 where
      right : Cond
      both : joined left right ≡ c
      within : Within operand most us names right after

    abbrev operand_rule : Cond → Rule Cond
    operand_rule left = record { read = join_with joined item left; derives = Operand room left; deeper = Operand (suc room) left }

    first-of : (most : ℕ) (us : List Token) (names : Names) (c : Cond) (after : Names) → Within operand most us names c after → Within operands most us names c after
    first-of most us names c after d = record { depth = d.depth; shallow = d.shallow; derived = joint.first us d.depth names c after d.derived }

    more-of : (some most : ℕ) → some ≤ most → (us vs : List Token) (names : Names) (a : Cond) (mid : Names) (c : Cond) (after : Names) → Within operands some us names a mid → Operand most a vs mid c after → Within operands most (us ++ t ∷ vs) names c after
    more-of some most le us vs names a mid c after d e = record {
      depth = max d.depth e.within.depth;
      shallow = omega (arith, d.shallow, e.within.shallow);
      derived = subst (λ c. Derives operands (us ++ t ∷ vs) (max d.depth e.within.depth) names c after) e.both
          (joint.more us vs d.depth e.within.depth names a mid e.right after d.derived e.within.derived);
    }

    operand-outcome : (left : Cond) (ts : List Token) (names : Names) → Outcome (operand_rule left) ts names
    operand-outcome left ts names = prefixed (phrase_rule operand item room) (operand_rule left) [] names names (joined left) (embed room) (embed (suc room)) ts (λ us same. refl) (outcome ts names)
      where
        embed : (most : ℕ) (us : List Token) (c : Cond) (after : Names) → Within operand most us names c after → Operand most left us names (joined left c) after
        embed most us c after d = record { right = c; both = refl; within = d }

    operand-items : Items t joint.itself (phrase_rule operand item room) operand_rule (phrase_rule operands all room)
    operand-items = record {
      is = is;
      one = first-of room;
      one_deeper = first-of (suc room);
      join = more-of room room (omega arith);
      join_deeper = more-of room (suc room) (omega arith);
      each = λ us names left mid d ts. inr (operand-outcome left ts mid);
    }

    chained : (ts : List Token) (names : Names) → Outcome (phrase_rule operands all room) ts names
    chained ts names = listed t (phrase_rule operand item room) operand_rule (phrase_rule operands all room)
        (in_turns t joint.itself (phrase_rule operand item room) operand_rule (phrase_rule operands all room) operand-items) names ts (outcome ts names)

abbrev pub conj_of : Cond → Cond → Cond
conj_of a b = roll-Cond (form.And a b)

abbrev pub disj_of : Cond → Cond → Cond
disj_of a b = roll-Cond (form.Or a b)

and-joint : Joint (word (codes "and")) conj_of rule.neg rule.conj
and-joint = record { itself = refl; first = rule.first _; more = rule.more_operands _ }

or-joint : Joint (word (codes "or")) disj_of rule.conj rule.cond
or-joint = record { itself = refl; first = rule.first _; more = rule.more_operands _ }

abbrev pub neg_rule : ℕ → Rule Cond
neg_rule room = phrase_rule rule.neg (neg (nested_within room)) room

abbrev pub conj_rule : ℕ → Rule Cond
conj_rule room = phrase_rule rule.conj (conj (nested_within room)) room

abbrev pub cond_rule : ℕ → Rule Cond
cond_rule room = phrase_rule rule.cond (cond_within (nested_within room)) room

pub conj-is : (within : Nested) (ts : List Token) (names : Names) → conj within ts names ≡ chain_of (word (codes "and")) conj_of (neg within) ts names
unfolding joined_by
conj-is within ts names = refl

pub cond-is : (within : Nested) (ts : List Token) (names : Names) → cond_within within ts names ≡ chain_of (word (codes "or")) disj_of (conj within) ts names
unfolding joined_by
cond-is within ts names = refl

module _ (room : ℕ) (outcome : (ts : List Token) (names : Names) → Outcome (neg_rule room) ts names) where
  conj-outcome : (ts : List Token) (names : Names) → Outcome (conj_rule room) ts names
  conj-outcome = chained (word (codes "and")) conj_of rule.neg rule.conj and-joint (neg (nested_within room)) (conj (nested_within room)) room (conj-is (nested_within room)) outcome

  cond-after : (ts : List Token) (names : Names) → Outcome (cond_rule room) ts names
  cond-after = chained (word (codes "or")) disj_of rule.conj rule.cond or-joint (conj (nested_within room)) (cond_within (nested_within room)) room (cond-is (nested_within room)) conj-outcome

-- ---- negations and atoms

abbrev true_word : Token
true_word = word (codes "true")

abbrev false_word : Token
false_word = word (codes "false")

abbrev not_word : Token
not_word = word (codes "not")

abbrev shape_word : Token
shape_word = word (codes "shape")

-- an atom in which nothing is open is a negation
atom-within : (room : ℕ) (us : List Token) (names : Names) (c : Cond) (after : Names) → Derives rule.atom us 0 names c after → Within rule.neg room us names c after
atom-within room us names c after d = record { depth = 0; shallow = omega arith; derived = rule.plain us 0 names c after d }

true-within_neg : (room : ℕ) (names : Names) → Within rule.neg room (true_word ∷ []) names (roll-Cond form.True) names
true-within_neg room names = atom-within room (true_word ∷ []) names (roll-Cond form.True) names (rule.always names)

neg-more : (room : ℕ) (names : Names) → Completable (Within rule.neg room) [] names
neg-more room names = record { more = true_word ∷ []; value = roll-Cond form.True; after = names; derived = true-within_neg room names }

negated-within : (room : ℕ) (us : List Token) (names : Names) (c : Cond) (after : Names) → Within rule.neg room us names c after → Within rule.neg (suc room) (not_word ∷ us) names (roll-Cond (form.Not c)) after
negated-within room us names c after d = record { depth = suc d.depth; shallow = omega (arith, d.shallow); derived = rule.negated us d.depth names c after d.derived }

-- cond ")"
record Grouped (room : ℕ) (us : List Token) (names : Names) (c : Cond) (after : Names) : Type 0 where
  inner : List Token
  is : us ≡ inner ++ closing ∷ []
  within : Within rule.cond room inner names c after

grouped-within : (room : ℕ) (us : List Token) (names : Names) (c : Cond) (after : Names) → Grouped room us names c after → Within rule.neg (suc room) (opening ∷ us) names c after
grouped-within room us names c after g =
    subst (λ ws. Within rule.neg (suc room) (opening ∷ ws) names c after) (sym g.is) (record {
      depth = suc g.within.depth;
      shallow = omega (arith, g.within.shallow);
      derived = rule.plain (opening ∷ g.inner ++ closing ∷ []) (suc g.within.depth) names c after (rule.grouped g.inner g.within.depth names c after g.within.derived);
    })

true-within : (room : ℕ) (names : Names) → Within rule.cond room (true_word ∷ []) names (roll-Cond form.True) names
true-within room names =
    let it = true-within_neg room names in
    record {
      depth = it.depth;
      shallow = it.shallow;
      derived = rule.first _ (true_word ∷ []) it.depth names (roll-Cond form.True) names (rule.first _ (true_word ∷ []) it.depth names (roll-Cond form.True) names it.derived);
    }

grouped-joins : (room most : ℕ) → room ≤ most → Joins (Within rule.cond room) (IsToken closing) (Grouped most)
grouped-joins room most le = record {
  join = λ us vs names c mid d after inside close. record {
    inner = us;
    is = ap (λ ws. us ++ ws) close.0;
    within = record {
      depth = inside.depth;
      shallow = omega (arith, inside.shallow);
      derived = subst (λ e. Derives rule.cond us inside.depth names e after) (sym close.1) (subst (λ ns. Derives rule.cond us inside.depth names c ns) (sym close.2) inside.derived);
    };
  };
}

abbrev closed : ℕ → Production Cond
closed room ts names = cond_within (nested_within room) ts names >>= λ c. tokens_past closing c.1 >>= λ end. Ok (c.0, end, c.2)

abbrev closed_rule : ℕ → Rule Cond
closed_rule room = record { read = closed room; derives = Grouped room; deeper = Grouped (suc room) }

closed-outcome : (room : ℕ) → ((ts : List Token) (names : Names) → Outcome (cond_rule room) ts names) → (ts : List Token) (names : Names) → Outcome (closed_rule room) ts names
closed-outcome room outcome ts names = sequence (cond_rule room) (λ c. pass closing c) (closed_rule room) (λ ts names. refl) (grouped-joins room room (omega arith)) (grouped-joins (suc room) (suc room) (omega arith)) (grouped-joins room (suc room) (omega arith))
    (λ us names c mid d. passes-more closing c mid) (λ us names c mid d. passes-more closing c mid) ts names (outcome ts names) (λ r. passes closing r.value r.rest r.after)

-- what comes of reading a negation that begins with `not`, and with `(`
record Opened (room : ℕ) : Type 0 where
  negation : (ts : List Token) (names : Names) → Outcome (neg_rule room) (not_word ∷ ts) names
  group : (ts : List Token) (names : Names) → Outcome (neg_rule room) (opening ∷ ts) names

none-opened : Opened zero
unfolding neg atom nested_within
none-opened = record {
  negation = λ ts names. fails (offends (record {
    prefix = [];
    token = not_word;
    suffix = ts;
    split = refl;
    kind = TooDeep;
    refused = λ more. refl;
    completable = neg-more zero names;
    why = inr (record {
      is = refl;
      opens = inl refl;
      deeper = record {
        more = true_word ∷ [];
        value = roll-Cond (form.Not (roll-Cond form.True));
        after = names;
        derived = negated-within zero (true_word ∷ []) names (roll-Cond form.True) names (true-within_neg zero names);
      };
    });
  }));
  group = λ ts names. fails (offends (record {
    prefix = [];
    token = opening;
    suffix = ts;
    split = refl;
    kind = TooDeep;
    refused = λ more. refl;
    completable = neg-more zero names;
    why = inr (record {
      is = refl;
      opens = inr refl;
      deeper = record {
        more = true_word ∷ closing ∷ [];
        value = roll-Cond form.True;
        after = names;
        derived = grouped-within zero (true_word ∷ closing ∷ []) names (roll-Cond form.True) names (record { inner = true_word ∷ []; is = refl; within = true-within zero names });
      };
    });
  }));
}

one-opened : (room : ℕ) → ((ts : List Token) (names : Names) → Outcome (neg_rule room) ts names) → Opened (suc room)
unfolding neg atom nested_within
one-opened room outcome = record {
  negation = λ ts names. prefixed (neg_rule room) (neg_rule (suc room)) (not_word ∷ []) names names (λ c. roll-Cond (form.Not c)) (λ us c after d. negated-within room us names c after d) (λ us c after d. negated-within (suc room) us names c after d)
      ts (λ us same. refl) (outcome ts names);
  group = λ ts names. prefixed (closed_rule room) (neg_rule (suc room)) (opening ∷ []) names names (λ c. c) (λ us c after d. grouped-within room us names c after d) (λ us c after d. grouped-within (suc room) us names c after d)
      ts (λ us same. sym (then_same (closed room us names))) (closed-outcome room (cond-after room outcome) ts names);
}

-- what begins neither with a word of conditions nor with `(`
record Plain (ts : List Token) : Type 0 where
  no_not : tokens_after not_word ts ≡ None
  no_true : tokens_after true_word ts ≡ None
  no_false : tokens_after false_word ts ≡ None
  no_open : tokens_after opening ts ≡ None
  no_shape : tokens_after shape_word ts ≡ None

plain-alike : (a b : List Token) → first_token a ≡ first_token b → Plain b → Plain a
plain-alike a b same p = record {
  no_not = missed-alike not_word a b same p.no_not;
  no_true = missed-alike true_word a b same p.no_true;
  no_false = missed-alike false_word a b same p.no_false;
  no_open = missed-alike opening a b same p.no_open;
  no_shape = missed-alike shape_word a b same p.no_shape;
}

abbrev shaped : Pattern × List Token × Names → ReadResult Cond
shaped s = Ok (roll-Cond (form.Shape s.0), s.1, s.2)

abbrev negated : Cond × List Token × Names → ReadResult Cond
negated c = Ok (roll-Cond (form.Not c.0), c.1, c.2)

-- an atom by its first token
module _ (within : Nested) (ts : List Token) (names : Names) where
  abbrev by_shape : Option (List Token) → ReadResult Cond
  by_shape o = if_present o (λ rest. pattern_of rest names >>= shaped) (comparison ts names)

  abbrev by_open : Option (List Token) → ReadResult Cond
  by_open o = if_present o (λ rest. cond_in_parentheses within rest names) (by_shape (tokens_after shape_word ts))

  abbrev by_false : Option (List Token) → ReadResult Cond
  by_false o = if_present o (λ rest. Ok (roll-Cond form.False, rest, names)) (by_open (tokens_after opening ts))

  abbrev by_true : Option (List Token) → ReadResult Cond
  by_true o = if_present o (λ rest. Ok (roll-Cond form.True, rest, names)) (by_false (tokens_after false_word ts))

  neg-comparison : Plain ts → neg within ts names ≡ comparison ts names
  unfolding neg atom
  neg-comparison p =
      ap (λ o. if_present o (λ rest. within.neg rest names >>= negated) (by_true (tokens_after true_word ts))) p.no_not
      ∙ ap by_true p.no_true
      ∙ ap by_false p.no_false
      ∙ ap by_open p.no_open
      ∙ ap by_shape p.no_shape

compared-within : (room : ℕ) (us : List Token) (names : Names) (c : Cond) (after : Names) → Compared us names c after → Within rule.neg room us names c after
compared-within room us names c after d =
    subst (λ ws. Within rule.neg room ws names c after) (sym d.is)
    (subst (λ c. Within rule.neg room (d.first ++ op d.sign ∷ number d.digits ∷ []) names c after) (sym d.said)
    (atom-within room (d.first ++ op d.sign ∷ number d.digits ∷ []) names _ after (rule.compared d.first names d.sum after d.sign d.digits d.value d.sums d.says)))

module _ (room : ℕ) (opened : Opened room) (ts : List Token) (names : Names) where
  neg-by : Outcome (neg_rule room) ts names
  unfolding neg atom
  neg-by = begins not_word (λ rest. opened.negation rest names) λ no_not.
      begins true_word (λ rest. reads (record {
        used = true_word ∷ [];
        rest = rest;
        value = roll-Cond form.True;
        after = names;
        split = refl;
        derived = true-within_neg room names;
        whatever_follows = λ later same. refl;
      })) λ no_true.
      begins false_word (λ rest. reads (record {
        used = false_word ∷ [];
        rest = rest;
        value = roll-Cond form.False;
        after = names;
        split = refl;
        derived = atom-within room (false_word ∷ []) names (roll-Cond form.False) names (rule.never names);
        whatever_follows = λ later same. refl;
      })) λ no_false.
      begins opening (λ rest. opened.group rest names) λ no_open.
      begins shape_word (λ rest. prefixed (plain pattern_of DerivesPattern) (neg_rule room) (shape_word ∷ []) names names (λ s. roll-Cond (form.Shape s)) (shaped-within room) (shaped-within (suc room)) rest (λ us same. refl) (pattern-outcome rest names)) λ no_shape.
      prefixed (plain comparison Compared) (neg_rule room) [] names names (λ c. c) (λ us c after d. compared-within room us names c after d) (λ us c after d. compared-within (suc room) us names c after d) ts
      (λ us same. neg-comparison (nested_within room) us names (plain-alike us ts same (record { no_not = no_not; no_true = no_true; no_false = no_false; no_open = no_open; no_shape = no_shape })) ∙ sym (then_same (comparison us names)))
      (comparison-outcome ts names)
    where
      begins : (t : Token) → ((rest : List Token) → Outcome (neg_rule room) (t ∷ rest) names) → (tokens_after t ts ≡ None → Outcome (neg_rule room) ts names) → Outcome (neg_rule room) ts names
      begins t this others = by_next (tokens_after t ts) refl
        where
          by_next : (o : Option (List Token)) → tokens_after t ts ≡ o → Outcome (neg_rule room) ts names
          by_next None e = others e
          by_next (Some rest) e = subst (λ us. Outcome (neg_rule room) us names) (sym (after_is t ts rest e)) (this rest)

      shaped-within : (most : ℕ) (us : List Token) (s : Pattern) (after : Names) → DerivesPattern us names s after → Within rule.neg most (shape_word ∷ us) names (roll-Cond (form.Shape s)) after
      shaped-within most us s after d = atom-within most (shape_word ∷ us) names (roll-Cond (form.Shape s)) after (rule.shaped (shape_word ∷ us) names s after (pattern-derives us names s after d))

neg-outcome : (room : ℕ) (ts : List Token) (names : Names) → Outcome (neg_rule room) ts names
neg-outcome zero = neg-by zero none-opened
neg-outcome (suc room) = neg-by (suc room) (one-opened room (neg-outcome room))

-- a condition within so much room
pub cond-outcome : (room : ℕ) (ts : List Token) (names : Names) → Outcome (cond_rule room) ts names
cond-outcome room = cond-after room (neg-outcome room)
