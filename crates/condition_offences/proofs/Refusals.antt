-- Where the tokens of a text first offend, and what the text is refused for.
use Rattle.std.proofs.Common.{◌≡◌, ℕ, ◌+◌, ◌<◌, ◌≤◌, inl, inr, Bool, true, false, if◌then◌else◌, nat_lt, List, [], ◌∷◌, ◌++◌, length, Option, None, Some, Result, Ok, Err, refl, sym, ap, subst, ◌∙◌, arith, append_assoc, append-nil}
use Rattle.std.proofs.lemmas.Bool.{lt-ltb, ltb-false, ltb-true}
use Rattle.line_fields.specs.meaning.Names.{Names}
use Rattle.conditions.specs.declared.condition.Cond.{Cond}
use Rattle.conditions.specs.meaning.Written.{most_depth, most_tokens}
use Rattle.condition_grammar.specs.declared.fault.ConditionKind.{ConditionKind}
use Rattle.condition_grammar.specs.declared.fault.ConditionKind.TheVariants.{BadForm, TooDeep, TooLong}
use Rattle.condition_grammar.specs.meaning.Derivations as rule
use Rattle.condition_grammar.specs.meaning.Derivations.{Derives}
use Rattle.condition_grammar.specs.meaning.Grammar.{ReadResult, ◌>>=◌, cond_within, condition, condition_of, condition_of_tokens, nested_within, nothing_after}
use Rattle.condition_grammar.specs.meaning.Lexing.{tokens_of}
use Rattle.condition_grammar.specs.meaning.Token.{Token}
use Rattle.condition_grammar.proofs.Chaining.{items-stop}
use Rattle.condition_grammar.proofs.Completing.{phrase-completes}
use Rattle.condition_grammar.proofs.Productions.{ok_same}
use Rattle.condition_grammar.proofs.Whole.{condition_of-tokens}
use Rattle.condition_offences.specs.meaning.Offences.{CanBeCompleted, IsCondition, IsCut, IsMisplaced, IsRefused, Offence, OpensTooDeep, ends_early, misplaced_token, no_token, opens_too_deep, too_many_tokens}
use Rattle.condition_offences.proofs.Conditions.{Within, cond-outcome, cond_rule}
use Rattle.condition_offences.proofs.Outcomes.{Completable, Offends, Outcome, Reads, ends, fails, first_token, offends, reads}
use Rattle.condition_offences.proofs.Tokens.{err_same}
use Rattle.condition_offences.proofs.Widening.{cond-wider}

-- ---- completions

-- tokens that derive a condition are read as it
derived-read : (ts : List Token) (depth : ℕ) (names : Names) (c : Cond) (after : Names) → Derives rule.cond ts depth names c after → (room : ℕ) → depth ≤ room → cond_within (nested_within room) ts names ≡ Ok (c, [], after)
derived-read ts depth names c after d room le =
    let begun = phrase-completes rule.cond ts depth names c after d room le [] refl in
    ap (λ us. cond_within (nested_within room) us names) (sym (append-nil ts)) ∙ begun.2 ∙ items-stop _ _ begun.0 c [] after refl

can-complete : (room : ℕ) (ts : List Token) (names : Names) → Completable (Within rule.cond room) ts names → CanBeCompleted room ts names
can-complete room ts names c = record { more = c.more; condition = record { depth = c.derived.depth; shallow = c.derived.shallow; said = c.value; after = c.after; derives = c.derived.derived } }

-- what is completed completes what it begins with
module _ (most : ℕ) (us : List Token) (t : Token) (names : Names) where
  begins-complete : (vs : List Token) → CanBeCompleted most (us ++ t ∷ vs) names → CanBeCompleted most (us ++ t ∷ []) names
  begins-complete vs c = record {
    more = vs ++ c.more;
    condition = subst (λ ws. IsCondition most ws names) (append_assoc us (t ∷ vs) c.more ∙ sym (append_assoc us (t ∷ []) (vs ++ c.more))) c.condition;
  }

  -- reading that fails whatever comes leaves no completion
  none-completes : ((more : List Token) (c : Cond) (after : Names) → cond_within (nested_within most) (us ++ t ∷ more) names ≡ Ok (c, [], after) → ⊥) → CanBeCompleted most (us ++ t ∷ []) names → ⊥
  none-completes lost c =
      let d = subst (λ ws. IsCondition most ws names) (append_assoc us (t ∷ []) c.more) c.condition in
      lost c.more d.said d.after (derived-read (us ++ t ∷ c.more) d.depth names d.said d.after d.derives most d.shallow)

condition-completes : (most : ℕ) (ts : List Token) (names : Names) → IsCondition most ts names → CanBeCompleted most ts names
condition-completes most ts names c = record { more = []; condition = subst (λ ws. IsCondition most ws names) (sym (append-nil ts)) c }

-- ---- one offence

-- two places in the same tokens are one, or one comes before the other
data Places (us vs : List Token) (t u : Token) (later others : List Token) : Type 0 where
  one_place : us ≡ vs → t ≡ u → later ≡ others → Places us vs t u later others
  first_before : (ws : List Token) → vs ≡ us ++ t ∷ ws → Places us vs t u later others
  second_before : (ws : List Token) → us ≡ vs ++ u ∷ ws → Places us vs t u later others

abbrev head_or : Token → List Token → Token
head_or t [] = t
head_or t (u ∷ us) = u

abbrev tail_of : List Token → List Token
tail_of [] = []
tail_of (u ∷ us) = us

places : (us vs : List Token) (t u : Token) (later others : List Token) → us ++ t ∷ later ≡ vs ++ u ∷ others → Places us vs t u later others
places [] [] t u later others e = one_place refl (ap (head_or t) e) (ap tail_of e)
places [] (v ∷ vs) t u later others e = first_before vs (ap (λ w. w ∷ vs) (sym (ap (head_or t) e)))
places (w ∷ us) [] t u later others e = second_before us (ap (λ w. w ∷ us) (ap (head_or u) e))
places (w ∷ us) (v ∷ vs) t u later others e = more (places us vs t u later others (ap tail_of e))
  where
    more : Places us vs t u later others → Places (w ∷ us) (v ∷ vs) t u later others
    more (one_place p q r) = one_place (ap (λ x. x ∷ us) (ap (head_or w) e) ∙ ap (λ ws. v ∷ ws) p) q r
    more (first_before ws p) = first_before ws (ap (λ xs. v ∷ xs) p ∙ ap (λ x. x ∷ (us ++ t ∷ ws)) (sym (ap (head_or w) e)))
    more (second_before ws p) = second_before ws (ap (λ xs. w ∷ xs) p ∙ ap (λ x. x ∷ (vs ++ u ∷ ws)) (ap (head_or w) e))

module _ (tokens : List Token) (names : Names) where
  abbrev IsOne : Offence tokens names → Offence tokens names → Type 0
  IsOne o p = (o.prefix ≡ p.prefix) × (o.token ≡ p.token) × (o.suffix ≡ p.suffix)

  -- an offence ends what can be completed
  offence-ends : (o : Offence tokens names) (ws : List Token) → CanBeCompleted most_depth (o.prefix ++ o.token ∷ ws) names → ⊥
  offence-ends o ws c = o.incompletable (begins-complete most_depth o.prefix o.token names ws c)

  pub offences-same : (o p : Offence tokens names) → IsOne o p
  offences-same o p = by_place (places o.prefix p.prefix o.token p.token o.suffix p.suffix (sym o.split ∙ p.split))
    where
      by_place : Places o.prefix p.prefix o.token p.token o.suffix p.suffix → IsOne o p
      by_place (one_place e f g) = (e, f, g)
      by_place (first_before ws e) = absurd (offence-ends o ws (subst (λ us. CanBeCompleted most_depth us names) e p.completable))
      by_place (second_before ws e) = absurd (offence-ends p ws (subst (λ us. CanBeCompleted most_depth us names) e o.completable))

  -- tokens that can be completed have no offence
  pub completable-none : (o : Offence tokens names) → CanBeCompleted most_depth tokens names → ⊥
  completable-none o c = offence-ends o o.suffix (subst (λ us. CanBeCompleted most_depth us names) o.split c)

  no-deeper : (o p : Offence tokens names) → IsMisplaced tokens names o → OpensTooDeep tokens names p → ⊥
  no-deeper o p mis deep =
      let is = offences-same p o in
      mis (most_depth + 1) (subst (λ us. CanBeCompleted (most_depth + 1) (us ++ o.token ∷ []) names) is.0 (subst (λ t. CanBeCompleted (most_depth + 1) (p.prefix ++ t ∷ []) names) is.1 deep.deeper))

-- ---- what comes of reading the tokens of a text

data Verdict (tokens : List Token) (names : Names) : Type 0 where
  is_said : (x : Cond × Names) → condition tokens names ≡ Ok x → IsCondition most_depth tokens names → Verdict tokens names
  is_early : condition tokens names ≡ Err BadForm → CanBeCompleted most_depth tokens names → (IsCondition most_depth tokens names → ⊥) → Verdict tokens names
  is_misplaced : condition tokens names ≡ Err BadForm → (o : Offence tokens names) → IsMisplaced tokens names o → Verdict tokens names
  is_too_deep : condition tokens names ≡ Err TooDeep → (o : Offence tokens names) → OpensTooDeep tokens names o → Verdict tokens names

abbrev at_end : Cond → List Token → Names → Cond × List Token × Names
at_end c ts after = (c, ts, after)

condition-is : (tokens : List Token) (names : Names) (r : ReadResult Cond) → cond_within (nested_within most_depth) tokens names ≡ r → condition tokens names ≡ (r >>= nothing_after)
unfolding condition
condition-is tokens names r e = ap (λ r. r >>= nothing_after) e

error-none : (kind : ConditionKind) (r : ReadResult Cond) (x : Cond × List Token × Names) → r ≡ Err kind → r ≡ Ok x → ⊥
error-none kind r x e f = let lost : ◌≡◌ {A = ReadResult Cond} (Err kind) (Ok x) = sym e ∙ f in cc

ok-none : (r : ReadResult Cond) (c d : Cond) (t : Token) (ts : List Token) (after later : Names) → r ≡ Ok (c, t ∷ ts, after) → r ≡ Ok (d, [], later) → ⊥
ok-none r c d t ts after later e f =
    let both : at_end c (t ∷ ts) after ≡ at_end d [] later = ok_same (sym e ∙ f) in
    let lists : t ∷ ts ≡ [] = ap (λ (x : Cond × List Token × Names). x.1) both in
    cc

more-room : (most more : ℕ) (ts : List Token) (names : Names) → CanBeCompleted most ts names → CanBeCompleted (most + more) ts names
more-room most more ts names c =
    let d = c.condition in
    record { more = c.more; condition = record { depth = d.depth; shallow = omega (arith, d.shallow); said = d.said; after = d.after; derives = d.derives } }

-- reading that fails at a token with no room too little fails there with any room
misplaced-by : (us : List Token) (t : Token) (names : Names) → ((more : List Token) (c : Cond) (after : Names) → cond_within (nested_within most_depth) (us ++ t ∷ more) names ≡ Ok (c, [], after) → ⊥)
    → ((more : List Token) → cond_within (nested_within most_depth) (us ++ t ∷ more) names ≡ Err TooDeep → ⊥) → (most : ℕ) → CanBeCompleted most (us ++ t ∷ []) names → ⊥
misplaced-by us t names lost shallow most c =
    none-completes (most + most_depth) us t names (λ more c after read. elim (cond-wider most_depth most (us ++ t ∷ more) names) [
      | inl narrow ↦ shallow more narrow
      | inr is ↦ lost more c after (sym is ∙ read)
    ]) (more-room most most_depth (us ++ t ∷ []) names c)

module _ (tokens : List Token) (names : Names) where
  said-by : (r : Reads (cond_rule most_depth) tokens names) → [] ≡ r.rest → Verdict tokens names
  said-by r none =
      let all : tokens ≡ r.used = r.split ∙ ap (λ us. r.used ++ us) (sym none) ∙ append-nil r.used in
      let read : cond_within (nested_within most_depth) tokens names ≡ Ok (at_end r.value [] r.after) =
      ap (λ us. cond_within (nested_within most_depth) us names) (r.split ∙ ap (λ us. r.used ++ us) (sym none)) ∙ r.whatever_follows [] (ap first_token none) in
      is_said (r.value, r.after) (condition-is tokens names (Ok (at_end r.value [] r.after)) read)
      (subst (λ us. IsCondition most_depth us names) (sym all) (record { depth = r.derived.depth; shallow = r.derived.shallow; said = r.value; after = r.after; derives = r.derived.derived }))

  -- what was read is a condition, and a token stands after it
  placed-after : (r : Reads (cond_rule most_depth) tokens names) (t : Token) (ts : List Token) → t ∷ ts ≡ r.rest → Verdict tokens names
  placed-after r t ts some =
      let is : tokens ≡ r.used ++ t ∷ ts = r.split ∙ ap (λ us. r.used ++ us) (sym some) in
      let every = λ (more : List Token). r.whatever_follows (t ∷ more) (ap first_token some) in
      let lost = λ (more : List Token) (c : Cond) (after : Names) (read : cond_within (nested_within most_depth) (r.used ++ t ∷ more) names ≡ Ok (at_end c [] after)).
      ok-none (cond_within (nested_within most_depth) (r.used ++ t ∷ more) names) r.value c t more r.after after (every more) read in
      is_misplaced (condition-is tokens names (Ok (at_end r.value (t ∷ ts) r.after)) (ap (λ us. cond_within (nested_within most_depth) us names) is ∙ every ts))
      (record {
        prefix = r.used;
        token = t;
        suffix = ts;
        split = is;
        completable = condition-completes most_depth r.used names (record { depth = r.derived.depth; shallow = r.derived.shallow; said = r.value; after = r.after; derives = r.derived.derived });
        incompletable = none-completes most_depth r.used t names lost;
      })
      (misplaced-by r.used t names lost (λ more deep. error-none TooDeep (cond_within (nested_within most_depth) (r.used ++ t ∷ more) names) (at_end r.value (t ∷ more) r.after) deep (every more)))

  refused-by : (o : Offends (cond_rule most_depth) tokens names) → Verdict tokens names
  refused-by o =
      let read = ap (λ us. cond_within (nested_within most_depth) us names) o.split ∙ o.refused o.suffix in
      let lost = λ (more : List Token) (c : Cond) (after : Names) (read : cond_within (nested_within most_depth) (o.prefix ++ o.token ∷ more) names ≡ Ok (at_end c [] after)).
      error-none o.kind (cond_within (nested_within most_depth) (o.prefix ++ o.token ∷ more) names) (at_end c [] after) (o.refused more) read in
      let offence : Offence tokens names = record {
        prefix = o.prefix;
        token = o.token;
        suffix = o.suffix;
        split = o.split;
        completable = can-complete most_depth o.prefix names o.completable;
        incompletable = none-completes most_depth o.prefix o.token names lost;
      } in
      elim o.why [
        | inl is ↦ is_misplaced (condition-is tokens names (Err BadForm) (read ∙ ap Err is)) offence
            (misplaced-by o.prefix o.token names lost (λ more deep. let both : BadForm ≡ TooDeep = sym is ∙ err_same (sym (o.refused more) ∙ deep) in cc))
        | inr it ↦ is_too_deep (condition-is tokens names (Err TooDeep) (read ∙ ap Err it.is)) offence
            (record { opens = it.opens; deeper = can-complete (most_depth + 1) (o.prefix ++ o.token ∷ []) names it.deeper })
      ]

  verdict : Verdict tokens names
  verdict = by_outcome (cond-outcome most_depth tokens names)
    where
      by_rest : (r : Reads (cond_rule most_depth) tokens names) (rest : List Token) → rest ≡ r.rest → Verdict tokens names
      by_rest r [] e = said-by r e
      by_rest r (t ∷ ts) e = placed-after r t ts e

      by_outcome : Outcome (cond_rule most_depth) tokens names → Verdict tokens names
      by_outcome (reads r) = by_rest r r.rest refl
      by_outcome (fails (ends e)) = is_early (condition-is tokens names (Err BadForm) e.refused) (can-complete most_depth tokens names e.completable)
          (λ c. error-none BadForm (cond_within (nested_within most_depth) tokens names) (at_end c.said [] c.after) e.refused (derived-read tokens c.depth names c.said c.after c.derives most_depth c.shallow))
      by_outcome (fails (offends o)) = refused-by o

-- tokens that cannot be completed have an offence
pub offence-there : (tokens : List Token) (names : Names) → (CanBeCompleted most_depth tokens names → ⊥) → Offence tokens names
offence-there tokens names none = by_verdict (verdict tokens names)
  where
    by_verdict : Verdict tokens names → Offence tokens names
    by_verdict (is_said x e c) = absurd (none (condition-completes most_depth tokens names c))
    by_verdict (is_early e can lost) = absurd (none can)
    by_verdict (is_misplaced e o lost) = o
    by_verdict (is_too_deep e o opens) = o

-- ---- texts

module _ (text : List ℕ) (names : Names) where
  uncut-refused : tokens_of text ≡ None → condition_of text names ≡ Err BadForm
  unfolding condition_of
  uncut-refused cut = ap (λ o. condition_of_tokens o names) cut

  many-refused : (ts : List Token) → tokens_of text ≡ Some ts → most_tokens < length ts → condition_of text names ≡ Err TooLong
  unfolding condition_of
  many-refused ts cut many = ap (λ o. condition_of_tokens o names) cut ∙ ap (λ (b : Bool). if b then Err TooLong else condition ts names) (lt-ltb most_tokens (length ts) many)

  module _ (ts : List Token) (is : IsCut text ts) where
    reads-tokens : condition_of text names ≡ condition ts names
    unfolding condition
    reads-tokens = condition_of-tokens text names ts is.cut is.few

    refused-for : (kind : ConditionKind) → condition ts names ≡ Err kind → Verdict ts names → IsRefused text names kind
    refused-for kind h (is_said x e c) = absurd (let lost : ◌≡◌ {A = Result (Cond × Names) ConditionKind} (Ok x) (Err kind) = sym e ∙ h in cc)
    refused-for kind h (is_early e can none) = subst (IsRefused text names) (err_same (sym e ∙ h)) (ends_early ts is can none)
    refused-for kind h (is_misplaced e o mis) = subst (IsRefused text names) (err_same (sym e ∙ h)) (misplaced_token ts is o mis)
    refused-for kind h (is_too_deep e o opens) = subst (IsRefused text names) (err_same (sym e ∙ h)) (opens_too_deep ts is o opens)

  -- a text that is refused has the reason
  pub refused-reason : (kind : ConditionKind) → condition_of text names ≡ Err kind → IsRefused text names kind
  refused-reason kind h = by_tokens (tokens_of text) refl
    where
      by_length : (ts : List Token) → tokens_of text ≡ Some ts → (b : Bool) → nat_lt most_tokens (length ts) ≡ b → IsRefused text names kind
      by_length ts cut true e = let many = ltb-true most_tokens (length ts) e in subst (IsRefused text names) (err_same (sym (many-refused ts cut many) ∙ h)) (too_many_tokens ts cut many)
      by_length ts cut false e =
          let is : IsCut text ts = record { cut = cut; few = ltb-false most_tokens (length ts) e } in
          refused-for ts is kind (sym (reads-tokens ts is) ∙ h) (verdict ts names)

      by_tokens : (o : Option (List Token)) → tokens_of text ≡ o → IsRefused text names kind
      by_tokens None cut = subst (IsRefused text names) (err_same (sym (uncut-refused cut) ∙ h)) (no_token cut)
      by_tokens (Some ts) cut = by_length ts cut (nat_lt most_tokens (length ts)) refl

  early-read : (ts : List Token) → CanBeCompleted most_depth ts names → (IsCondition most_depth ts names → ⊥) → Verdict ts names → condition ts names ≡ Err BadForm
  early-read ts can none (is_said x e c) = absurd (none c)
  early-read ts can none (is_early e can_too none_too) = e
  early-read ts can none (is_misplaced e o mis) = e
  early-read ts can none (is_too_deep e o opens) = absurd (completable-none ts names o can)

  misplaced-read : (ts : List Token) (o : Offence ts names) → IsMisplaced ts names o → Verdict ts names → condition ts names ≡ Err BadForm
  misplaced-read ts o mis (is_said x e c) = absurd (completable-none ts names o (condition-completes most_depth ts names c))
  misplaced-read ts o mis (is_early e can none) = e
  misplaced-read ts o mis (is_misplaced e p mis_too) = e
  misplaced-read ts o mis (is_too_deep e p opens) = absurd (no-deeper ts names o p mis opens)

  deep-read : (ts : List Token) (o : Offence ts names) → OpensTooDeep ts names o → Verdict ts names → condition ts names ≡ Err TooDeep
  deep-read ts o opens (is_said x e c) = absurd (completable-none ts names o (condition-completes most_depth ts names c))
  deep-read ts o opens (is_early e can none) = absurd (completable-none ts names o can)
  deep-read ts o opens (is_misplaced e p mis) = absurd (no-deeper ts names p o mis opens)
  deep-read ts o opens (is_too_deep e p opens_too) = e

  -- a text that has the reason is refused
  pub reason-refused : (kind : ConditionKind) → IsRefused text names kind → condition_of text names ≡ Err kind
  reason-refused _ (no_token cut) = uncut-refused cut
  reason-refused _ (too_many_tokens ts cut many) = many-refused ts cut many
  reason-refused _ (ends_early ts is can none) = reads-tokens ts is ∙ early-read ts can none (verdict ts names)
  reason-refused _ (misplaced_token ts is o mis) = reads-tokens ts is ∙ misplaced-read ts o mis (verdict ts names)
  reason-refused _ (opens_too_deep ts is o opens) = reads-tokens ts is ∙ deep-read ts o opens (verdict ts names)
