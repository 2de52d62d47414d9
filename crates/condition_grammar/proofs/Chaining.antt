-- Productions step by step, as the reader takes them.
use Rattle.std.proofs.Common.{◌≡◌, ℕ, zero, suc, ◌+◌, ◌-◌, ◌<◌, ◌≤◌, ◌⊎◌, inl, inr, true, false, cond, List, [], ◌∷◌, ◌++◌, length, Option, None, Some, Result, Ok, Err, codes, refl, sym, ap, subst, ◌∙◌, arith}
use Rattle.line_fields.specs.meaning.Names.{Names}
use Rattle.conditions.specs.declared.condition.Cond.{Cond}
use Rattle.conditions.specs.declared.condition.Cond.TheOpen as form
use Rattle.conditions.specs.declared.condition.Cond.TheViews.{roll-Cond}
use Rattle.conditions.specs.declared.condition.Factor.{Factor}
use Rattle.conditions.specs.declared.pattern.Pattern.{Pattern}
use Rattle.conditions.specs.declared.pattern.PatternEdge.{PatternEdge}
use Rattle.condition_grammar.specs.declared.fault.ConditionFault.{ConditionFault}
use Rattle.condition_grammar.specs.declared.fault.ConditionFault.TheVariants as error
use Rattle.condition_grammar.specs.declared.fault.ConditionKind.{ConditionKind}
use Rattle.condition_grammar.specs.declared.fault.ConditionKind.TheVariants.{BadForm, TooDeep}
use Rattle.condition_grammar.specs.declared.joint.Joint.{Joint}
use Rattle.condition_grammar.specs.meaning.Token.{Token, digits_in, word, opening, closing, comma, plus}
use Rattle.condition_grammar.specs.meaning.Grammar.{Production, ReadResult, Nested, ◌>>=◌, tokens_after, if_present, or_bad_form, tokens_past, use_of, more_uses, chain, comparison, atom, neg, more_items, join_after, joint_word, joined, joined_by, cond_within, nested_within, begins_with, label_after, pair_after, pairs, pattern_labels, pattern_of}
use Rattle.condition_grammar.specs.calls.Reading.{TakesTokens, ReaderState, MissesToken, PassesToken, ReadsProduction, ReadsUse}

-- what a call answered that passes an error on
pub Reads-err : {A B : Type 0} → (r : Result B ConditionFault) (e : ConditionFault) (old new : ReaderState) (a : ReadResult A) (b : ReadResult B)
    → r ≡ Err e → ReadsProduction {A = A} (Err e) old a → ((f : ConditionKind) → a ≡ Err f → b ≡ Err f) → ReadsProduction r new b
Reads-err {A} {B} r error.NoMemory old new a b is reads leads = subst (λ r. ReadsProduction {A = B} r new b) (sym is) tt
Reads-err {A} {B} r (error.Refused f) old new a b is reads leads = subst (λ r. ReadsProduction {A = B} r new b) (sym is) (leads f reads)

pub Reads-refused : {B : Type 0} → (r : Result B ConditionFault) (f : ConditionKind) (new : ReaderState) (b : ReadResult B) → r ≡ Err (error.Refused f) → b ≡ Err f → ReadsProduction r new b
Reads-refused {B} r f new b is reads = subst (λ r. ReadsProduction {A = B} r new b) (sym is) reads

-- uses

pub more_uses-stop : (room : ℕ) (sum : List Factor) (ts : List Token) (names : Names) → tokens_after plus ts ≡ None → more_uses room sum ts names ≡ Ok (sum, ts, names)
unfolding more_uses
more_uses-stop zero sum ts names lost = ap (λ o. if_present o (λ _. Err BadForm) (Ok (sum, ts, names))) lost
more_uses-stop (suc room) sum ts names lost = ap (λ o. if_present o (λ rest. use_of rest names >>= λ u. more_uses room (sum ++ u.0 ∷ []) u.1 u.2) (Ok (sum, ts, names))) lost

pub more_uses-more : (room : ℕ) (sum : List Factor) (ts rest later : List Token) (names after : Names) (u : Factor) → 0 < room → tokens_after plus ts ≡ Some rest → use_of rest names ≡ Ok (u, later, after)
    → more_uses room sum ts names ≡ more_uses (room - 1) (sum ++ u ∷ []) later after
unfolding more_uses
more_uses-more zero sum ts rest later names after u some next read = absurd (omega arith)
more_uses-more (suc room) sum ts rest later names after u some next read =
    ap (λ o. if_present o (λ rest. use_of rest names >>= λ u. more_uses room (sum ++ u.0 ∷ []) u.1 u.2) (Ok (sum, ts, names))) next
    ∙ ap (λ r. r >>= λ u. more_uses room (sum ++ u.0 ∷ []) u.1 u.2) read
    ∙ ap (λ n. more_uses n (sum ++ u ∷ []) later after) (let e : room ≡ suc room - 1 = omega arith in e)

pub more_uses-fail : (room : ℕ) (sum : List Factor) (ts rest : List Token) (names : Names) (f : ConditionKind) → tokens_after plus ts ≡ Some rest
    → ((room ≡ 0) × (f ≡ BadForm)) ⊎ ((0 < room) × (use_of rest names ≡ Err f)) → more_uses room sum ts names ≡ Err f
unfolding more_uses
more_uses-fail zero sum ts rest names f next (inl full) = ap (λ o. if_present o (λ _. Err BadForm) (Ok (sum, ts, names))) next ∙ ap Err (sym full.1)
more_uses-fail zero sum ts rest names f next (inr read) = absurd (omega (arith, read.0))
more_uses-fail (suc room) sum ts rest names f next (inl full) = absurd (omega (arith, full.0))
more_uses-fail (suc room) sum ts rest names f next (inr read) =
    ap (λ o. if_present o (λ rest. use_of rest names >>= λ u. more_uses room (sum ++ u.0 ∷ []) u.1 u.2) (Ok (sum, ts, names))) next
    ∙ ap (λ r. r >>= λ u. more_uses room (sum ++ u.0 ∷ []) u.1 u.2) read.1

module _ (room : ℕ) (sum : List Factor) (old new : ReaderState) where
  pub uses_more : (u : Factor) (later : List Factor) → ReadsUse room old (Ok (Some u)) new → later ≡ sum ++ u ∷ []
      → more_uses room sum old.tokens old.names ≡ more_uses (room - 1) later new.tokens new.names
  uses_more u later (some, shorter, rest, next, read) later_is =
      more_uses-more room sum old.tokens rest new.tokens old.names new.names u some next read ∙ ap (λ s. more_uses (room - 1) s new.tokens new.names) (sym later_is)

  pub uses_stop : ReadsUse room old (Ok None) new → more_uses room sum old.tokens old.names ≡ Ok (sum, new.tokens, new.names)
  uses_stop (lost, same) = more_uses-stop room sum old.tokens old.names lost ∙ ap (λ (l : ReaderState). Ok (sum, l.tokens, l.names)) (sym same)

  pub uses_fail : (r : Result (List Factor) ConditionFault) (e : ConditionFault) (b : ReadResult (List Factor)) → r ≡ Err e → ReadsUse room old (Err e) new
      → b ≡ more_uses room sum old.tokens old.names → ReadsProduction r new b
  uses_fail r error.NoMemory b is reads same = subst (λ r. ReadsProduction {A = List Factor} r new b) (sym is) tt
  uses_fail r (error.Refused f) b is (rest, next, why) same =
      subst (λ r. ReadsProduction {A = List Factor} r new b) (sym is) (same ∙ more_uses-fail room sum old.tokens rest old.names f next why)

-- chains

behind-some : (t : Token) (ts rest : List Token) → tokens_after t ts ≡ Some rest → length ts ≤ 0 → ⊥
behind-some t [] rest next short = let lost : None ≡ Some rest = next in cc
behind-some t (u ∷ ts) rest next short = omega arith

module _ {S : Type 0} (separator : Token) (item : S → Production S) where
  pub items-stop : (turns : ℕ) (so_far : S) (ts : List Token) (names : Names) → tokens_after separator ts ≡ None → more_items separator item turns so_far ts names ≡ Ok (so_far, ts, names)
  unfolding more_items
  items-stop zero so_far ts names lost = refl
  items-stop (suc turns) so_far ts names lost =
      ap (λ o. if_present o (λ rest. item so_far rest names >>= λ r. more_items separator item turns r.0 r.1 r.2) (Ok (so_far, ts, names))) lost

  pub items-more : (turns : ℕ) (so_far later : S) (ts rest left : List Token) (names after : Names) → length ts ≤ turns → tokens_after separator ts ≡ Some rest → item so_far rest names ≡ Ok (later, left, after)
      → more_items separator item turns so_far ts names ≡ more_items separator item (turns - 1) later left after
  unfolding more_items
  items-more zero so_far later ts rest left names after enough next read = absurd (behind-some separator ts rest next enough)
  items-more (suc turns) so_far later ts rest left names after enough next read =
      ap (λ o. if_present o (λ rest. item so_far rest names >>= λ r. more_items separator item turns r.0 r.1 r.2) (Ok (so_far, ts, names))) next
      ∙ ap (λ r. r >>= λ r. more_items separator item turns r.0 r.1 r.2) read
      ∙ ap (λ n. more_items separator item n later left after) (let e : turns ≡ suc turns - 1 = omega arith in e)

  pub items-fail : (turns : ℕ) (so_far : S) (ts rest : List Token) (names : Names) (f : ConditionKind) → length ts ≤ turns → tokens_after separator ts ≡ Some rest → item so_far rest names ≡ Err f
      → more_items separator item turns so_far ts names ≡ Err f
  unfolding more_items
  items-fail zero so_far ts rest names f enough next read = absurd (behind-some separator ts rest next enough)
  items-fail (suc turns) so_far ts rest names f enough next read =
      ap (λ o. if_present o (λ rest. item so_far rest names >>= λ r. more_items separator item turns r.0 r.1 r.2) (Ok (so_far, ts, names))) next
      ∙ ap (λ r. r >>= λ r. more_items separator item turns r.0 r.1 r.2) read

-- What is left to read of items with a separator, after those so far, gives what the whole gives.
pub record ItemsLeft {S : Type 0} (separator : Token) (item : S → Production S) (whole : ReadResult S) (start : ReaderState) (so_far : S) (now : ReaderState) : Type 0 where
  pub turns : ℕ
  pub enough : length now.tokens ≤ turns
  pub same : whole ≡ more_items separator item turns so_far now.tokens now.names
  pub shorter : length now.tokens ≤ length start.tokens
  pub known : now.known ≡ start.known

module _ {S : Type 0} (separator : Token) (item : S → Production S) (whole : ReadResult S) (start : ReaderState) (so_far : S) (now : ReaderState) where
  pub Items-first : whole ≡ more_items separator item (length now.tokens) so_far now.tokens now.names → TakesTokens start now → ItemsLeft separator item whole start so_far now
  Items-first same on = record { turns = length now.tokens; enough = omega arith; same = same; shorter = on.shorter; known = on.known }

  module _ (left : ItemsLeft separator item whole start so_far now) where
    pub Items-stop : (new : ReaderState) → MissesToken separator now new → whole ≡ Ok (so_far, new.tokens, new.names)
    Items-stop new misses =
        left.same ∙ items-stop separator item left.turns so_far now.tokens now.names misses.missed ∙ ap (λ (l : ReaderState). Ok (so_far, l.tokens, l.names)) (sym misses.unchanged)

    module _ (mid : ReaderState) (passes : PassesToken separator now mid) where
      pub Items-more : (later : S) (new : ReaderState) → item so_far mid.tokens mid.names ≡ Ok (later, new.tokens, new.names) → TakesTokens mid new → ItemsLeft separator item whole start later new
      Items-more later new read on = record {
        turns = left.turns - 1;
        enough = omega (arith, left.enough, passes.shorter, on.shorter);
        same = left.same
            ∙ items-more separator item left.turns so_far later now.tokens mid.tokens new.tokens now.names new.names left.enough passes.passed (ap (item so_far mid.tokens) (sym passes.names) ∙ read);
        shorter = omega (arith, left.shorter, passes.shorter, on.shorter);
        known = on.known ∙ passes.known ∙ left.known;
      }

      pub Items-err : (r : Result S ConditionFault) (e : ConditionFault) (new : ReaderState) → r ≡ Err e → ReadsProduction {A = S} (Err e) new (item so_far mid.tokens mid.names) → ReadsProduction r new whole
      Items-err r e new is reads =
          Reads-err r e new new (item so_far mid.tokens mid.names) whole is reads (λ f read. left.same
          ∙ items-fail separator item left.turns so_far now.tokens mid.tokens now.names f left.enough passes.passed (ap (item so_far mid.tokens) (sym passes.names) ∙ read))

-- chains of conditions

abbrev pub joined_then : Joint → Cond → Cond × List Token × Names → ReadResult Cond
joined_then joint left c = Ok (joined joint left c.0, c.1, c.2)

module _ (joint : Joint) (item : Production Cond) where
  pub chain-stop : (turns : ℕ) (left : Cond) (ts : List Token) (names : Names) → tokens_after (joint_word joint) ts ≡ None → chain joint item turns left ts names ≡ Ok (left, ts, names)
  chain-stop = items-stop (joint_word joint) (join_after joint item)

  pub chain-more : (turns : ℕ) (left c : Cond) (ts rest later : List Token) (names after : Names) → length ts ≤ turns → tokens_after (joint_word joint) ts ≡ Some rest → item rest names ≡ Ok (c, later, after)
      → chain joint item turns left ts names ≡ chain joint item (turns - 1) (joined joint left c) later after
  chain-more turns left c ts rest later names after enough next read =
      items-more (joint_word joint) (join_after joint item) turns left (joined joint left c) ts rest later names after enough next (ap (λ r. r >>= joined_then joint left) read)

  pub Chained-more : (whole : ReadResult Cond) (start : ReaderState) (left : Cond) (now : ReaderState) → ItemsLeft (joint_word joint) (join_after joint item) whole start left now
      → (mid : ReaderState) → PassesToken (joint_word joint) now mid → (c later : Cond) (new : ReaderState) → item mid.tokens mid.names ≡ Ok (c, new.tokens, new.names) → TakesTokens mid new → later ≡ joined joint left c
      → ItemsLeft (joint_word joint) (join_after joint item) whole start later new
  Chained-more whole start left now so_far mid passes c later new read on later_is =
      Items-more (joint_word joint) (join_after joint item) whole start left now so_far mid passes later new
      (ap (λ r. r >>= joined_then joint left) read ∙ ap (λ x. Ok (x, new.tokens, new.names)) (sym later_is)) on

  pub Chained-err : (whole : ReadResult Cond) (start : ReaderState) (left : Cond) (now : ReaderState) → ItemsLeft (joint_word joint) (join_after joint item) whole start left now
      → (mid : ReaderState) → PassesToken (joint_word joint) now mid → (r : Result Cond ConditionFault) (e : ConditionFault) (new : ReaderState) → r ≡ Err e → ReadsProduction {A = Cond} (Err e) new (item mid.tokens mid.names)
      → ReadsProduction r new whole
  Chained-err whole start left now so_far mid passes r e new is reads =
      Reads-err r e new new (item mid.tokens mid.names) whole is reads (λ f read. so_far.same
      ∙ items-fail (joint_word joint) (join_after joint item) so_far.turns left now.tokens mid.tokens now.names f so_far.enough passes.passed
      (ap (λ ns. join_after joint item left mid.tokens ns) (sym passes.names) ∙ ap (λ r. r >>= joined_then joint left) read))

pub joined_by-first : (joint : Joint) (item : Production Cond) (ts later : List Token) (names after : Names) (c : Cond) → item ts names ≡ Ok (c, later, after)
    → joined_by joint item ts names ≡ chain joint item (length later) c later after
unfolding joined_by
joined_by-first joint item ts later names after c read = ap (λ r. r >>= λ c. chain joint item (length c.1) c.0 c.1 c.2) read

-- operands that fail at the first
pub joined_by-fail : (joint : Joint) (item : Production Cond) (ts : List Token) (names : Names) (f : ConditionKind) → item ts names ≡ Err f → joined_by joint item ts names ≡ Err f
unfolding joined_by
joined_by-fail joint item ts names f read = ap (λ r. r >>= λ c. chain joint item (length c.1) c.0 c.1 c.2) read

-- lists of a shape

module _ (ts : List Token) (names : Names) where
  pub labels-first : (labels : List ℕ) (later : List Token) (after : Names) → label_after [] ts names ≡ Ok (labels, later, after) → pattern_labels ts names ≡ more_items comma label_after (length later) labels later after
  unfolding pattern_labels
  labels-first labels later after read = ap (λ r. r >>= λ l. more_items comma label_after (length l.1) l.0 l.1 l.2) read

  pub labels-fail : (f : ConditionKind) → label_after [] ts names ≡ Err f → pattern_labels ts names ≡ Err f
  unfolding pattern_labels
  labels-fail f read = ap (λ r. r >>= λ l. more_items comma label_after (length l.1) l.0 l.1 l.2) read

  module _ (n : ℕ) where
    abbrev no_edges : List PatternEdge × List Token × Names
    no_edges = ([], ts, names)

    pairs_some : begins_with digits_in ts ≡ true → pairs n ts names ≡ (pair_after n [] ts names >>= λ e. more_items comma (pair_after n) (length e.1) e.0 e.1 e.2)
    unfolding pairs
    pairs_some some = ap (λ b. cond b (pair_after n [] ts names >>= λ e. more_items comma (pair_after n) (length e.1) e.0 e.1 e.2) (Ok no_edges)) some

    pub pairs-none : begins_with digits_in ts ≡ false → pairs n ts names ≡ Ok ([], ts, names)
    unfolding pairs
    pairs-none lost = ap (λ b. cond b (pair_after n [] ts names >>= λ e. more_items comma (pair_after n) (length e.1) e.0 e.1 e.2) (Ok no_edges)) lost

    pub pairs-first : (edges : List PatternEdge) (later : List Token) (after : Names) → begins_with digits_in ts ≡ true → pair_after n [] ts names ≡ Ok (edges, later, after) → pairs n ts names ≡ more_items comma (pair_after n) (length later) edges later after
    pairs-first edges later after some read = pairs_some some ∙ ap (λ r. r >>= λ e. more_items comma (pair_after n) (length e.1) e.0 e.1 e.2) read

    pub pairs-fail : (f : ConditionKind) → begins_with digits_in ts ≡ true → pair_after n [] ts names ≡ Err f → pairs n ts names ≡ Err f
    pairs-fail f some read = pairs_some some ∙ ap (λ r. r >>= λ e. more_items comma (pair_after n) (length e.1) e.0 e.1 e.2) read

-- what is open

abbrev pub negated : Cond × List Token × Names → ReadResult Cond
negated c = Ok (roll-Cond (form.Not c.0), c.1, c.2)

abbrev pub closed : Cond × List Token × Names → ReadResult Cond
closed c = tokens_past closing c.1 >>= λ end. Ok (c.0, end, c.2)

module _ (c : Cond) (old new : ReaderState) where
  pub closed-passed : PassesToken closing old new → closed (c, old.tokens, old.names) ≡ Ok (c, new.tokens, new.names)
  closed-passed passes =
      ap (λ o. or_bad_form o >>= λ end. Ok (c, end, old.names)) passes.passed ∙ ap (λ ns. Ok (c, new.tokens, ns)) (sym passes.names)

  pub closed-missed : (f : ConditionKind) → f ≡ BadForm → MissesToken closing old new → closed (c, old.tokens, old.names) ≡ Err f
  closed-missed f is misses = ap (λ o. or_bad_form o >>= λ end. Ok (c, end, old.names)) misses.missed ∙ ap Err (sym is)

pub neg-opened : (room left : ℕ) (old new : ReaderState) → room ≡ left + 1 → PassesToken (word (codes "not")) old new
    → neg (nested_within room) old.tokens old.names ≡ (neg (nested_within left) new.tokens new.names >>= negated)
unfolding neg nested_within
neg-opened zero left old new is passes = absurd (omega arith)
neg-opened (suc room) left old new is passes =
    ap (λ o. if_present o (λ rest. neg (nested_within room) rest old.names >>= negated) (atom (nested_within (suc room)) old.tokens old.names)) passes.passed
    ∙ ap (λ n. neg (nested_within n) new.tokens old.names >>= negated) (let e : room ≡ left = omega arith in e)
    ∙ ap (λ ns. neg (nested_within left) new.tokens ns >>= negated) (sym passes.names)

pub neg-full : (room : ℕ) (old new : ReaderState) → room ≡ 0 → PassesToken (word (codes "not")) old new → neg (nested_within room) old.tokens old.names ≡ Err TooDeep
unfolding neg nested_within
neg-full zero old new is passes = ap (λ o. if_present o (λ rest. Err TooDeep >>= negated) (atom (nested_within zero) old.tokens old.names)) passes.passed
neg-full (suc room) old new is passes = absurd (omega arith)

abbrev pub shaped : Pattern × List Token × Names → ReadResult Cond
shaped s = Ok (roll-Cond (form.Shape s.0), s.1, s.2)

-- an atom by its first token
abbrev by_shape : ReaderState → Option (List Token) → ReadResult Cond
by_shape left o = if_present o (λ rest. pattern_of rest left.names >>= shaped) (comparison left.tokens left.names)

abbrev by_opening : Nested → ReaderState → Option (List Token) → ReadResult Cond
by_opening within left o = if_present o (λ rest. within.cond rest left.names >>= closed) (by_shape left (tokens_after (word (codes "shape")) left.tokens))

abbrev by_false : Nested → ReaderState → Option (List Token) → ReadResult Cond
by_false within left o = if_present o (λ rest. Ok (roll-Cond form.False, rest, left.names)) (by_opening within left (tokens_after opening left.tokens))

abbrev by_true : Nested → ReaderState → Option (List Token) → ReadResult Cond
by_true within left o = if_present o (λ rest. Ok (roll-Cond form.True, rest, left.names)) (by_false within left (tokens_after (word (codes "false")) left.tokens))

module _ (old one two new : ReaderState) (no_true : MissesToken (word (codes "true")) old one) (no_false : MissesToken (word (codes "false")) one two) (passes : PassesToken opening two new) where
  same_left : two ≡ old
  same_left = no_false.unchanged ∙ no_true.unchanged

  atom-open : (within : Nested) → atom within old.tokens old.names ≡ (within.cond new.tokens new.names >>= closed)
  unfolding atom
  atom-open within =
      ap (by_true within old) no_true.missed
      ∙ ap (by_false within old) (ap (λ (l : ReaderState). tokens_after (word (codes "false")) l.tokens) (sym no_true.unchanged) ∙ no_false.missed)
      ∙ ap (by_opening within old) (ap (λ (l : ReaderState). tokens_after opening l.tokens) (sym same_left) ∙ passes.passed)
      ∙ ap (λ ns. within.cond new.tokens ns >>= closed) (ap (λ (l : ReaderState). l.names) (sym same_left) ∙ sym passes.names)

  pub atom-opened : (room left : ℕ) → room ≡ left + 1 → atom (nested_within room) old.tokens old.names ≡ (cond_within (nested_within left) new.tokens new.names >>= closed)
  unfolding nested_within
  atom-opened zero left is = absurd (omega arith)
  atom-opened (suc room) left is = atom-open (nested_within (suc room)) ∙ ap (λ n. cond_within (nested_within n) new.tokens new.names >>= closed) (let e : room ≡ left = omega arith in e)

  pub atom-full : (room : ℕ) → room ≡ 0 → atom (nested_within room) old.tokens old.names ≡ Err TooDeep
  unfolding nested_within
  atom-full zero is = atom-open (nested_within zero)
  atom-full (suc room) is = absurd (omega arith)
