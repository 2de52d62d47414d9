-- A whole condition, as it is read.
use Rattle.std.proofs.Common.{◌≡◌, ℕ, ◌<◌, ◌≤◌, true, false, cond, List, [], ◌∷◌, ◌++◌, length, None, Some, Ok, Err, refl, sym, ap, subst, ◌∙◌}
use Rattle.std.proofs.lemmas.Bool.{lt-ltb, le-ltb}
use Rattle.line_fields.specs.meaning.Names.{Names}
use Rattle.conditions.specs.declared.condition.Cond.{Cond}
use Rattle.conditions.specs.meaning.Written.{most_depth, most_tokens}
use Rattle.condition_grammar.specs.declared.fault.ConditionFault.{ConditionFault}
use Rattle.condition_grammar.specs.declared.fault.ConditionFault.TheVariants as error
use Rattle.condition_grammar.specs.declared.fault.ConditionKind.{ConditionKind}
use Rattle.condition_grammar.specs.declared.fault.ConditionKind.TheVariants.{BadForm, TooLong}
use Rattle.condition_grammar.specs.meaning.Token.{Token}
use Rattle.condition_grammar.specs.meaning.Lexing.{tokens_of}
use Rattle.condition_grammar.specs.calls.Cursor.{RefusesText, has_no_token}
use Rattle.condition_grammar.specs.meaning.Grammar.{◌>>=◌, cond_within, nested_within, nothing_after, condition, condition_of, condition_of_tokens}
use Rattle.condition_grammar.specs.calls.Reading.{ReaderState, RefusesAs, TakesTokens, AreNew, NewLabels, ReadsProduction, Parses}

module _ (text : List ℕ) (names : Names) where
  pub condition_of-other : tokens_of text ≡ None → condition_of text names ≡ Err BadForm
  unfolding condition_of
  condition_of-other lost = ap (λ o. condition_of_tokens o names) lost

  module _ (ts : List Token) (cut : tokens_of text ≡ Some ts) where
    pub condition_of-long : most_tokens < length ts → condition_of text names ≡ Err TooLong
    unfolding condition_of
    condition_of-long long = ap (λ o. condition_of_tokens o names) cut ∙ ap (λ b. cond b (Err TooLong) (condition ts names)) (lt-ltb most_tokens (length ts) long)

    pub condition_of-tokens : length ts ≤ most_tokens → condition_of text names ≡ (cond_within (nested_within most_depth) ts names >>= nothing_after)
    unfolding condition_of condition
    condition_of-tokens few = ap (λ o. condition_of_tokens o names) cut ∙ ap (λ b. cond b (Err TooLong) (condition ts names)) (le-ltb most_tokens (length ts) few)

-- a text that is refused as it is cut
pub cut-fails : (text : List ℕ) (names : Names) (e : ConditionFault) → RefusesText text e → RefusesAs e (condition_of text names)
cut-fails text names error.NoMemory refused = tt
cut-fails text names (error.Refused f) refused = condition_of-other text names refused.0 ∙ ap Err (sym refused.1)

alone-done : (c : Cond) (ts : List Token) (ns : Names) → true ≡ has_no_token ts → nothing_after (c, ts, ns) ≡ Ok (c, ns)
alone-done c [] ns e = refl
alone-done c (t ∷ ts) ns e = absurd (let no : true ≡ false = e in cc)

alone-more : (c : Cond) (ts : List Token) (ns : Names) → false ≡ has_no_token ts → nothing_after (c, ts, ns) ≡ Err BadForm
alone-more c [] ns e = absurd (let no : false ≡ true = e in cc)
alone-more c (t ∷ ts) ns e = refl

module _ (text : List ℕ) (names : Names) (ts : List Token) (cut : tokens_of text ≡ Some ts) (few : length ts ≤ most_tokens)
    (start : ReaderState) (start_is : start ≡ record { tokens = ts; names = names; known = names }) where
  from_start : condition_of text names ≡ (cond_within (nested_within most_depth) start.tokens start.names >>= nothing_after)
  from_start = condition_of-tokens text names ts cut few ∙ ap (λ (l : ReaderState). cond_within (nested_within most_depth) l.tokens l.names >>= nothing_after) (sym start_is)

  pub read-refused : (f : ConditionKind) → cond_within (nested_within most_depth) start.tokens start.names ≡ Err f → condition_of text names ≡ Err f
  read-refused f read = from_start ∙ ap (λ r. r >>= nothing_after) read

  pub read-fails : (e : ConditionFault) (mid : ReaderState) → ReadsProduction {A = Cond} (Err e) mid (cond_within (nested_within most_depth) start.tokens start.names) → RefusesAs e (condition_of text names)
  read-fails error.NoMemory mid reads = tt
  read-fails (error.Refused f) mid reads = read-refused f reads

  module _ (c : Cond) (mid : ReaderState) (read : cond_within (nested_within most_depth) start.tokens start.names ≡ Ok (c, mid.tokens, mid.names)) where
    pub read-more : false ≡ has_no_token mid.tokens → condition_of text names ≡ Err BadForm
    read-more some = from_start ∙ ap (λ r. r >>= nothing_after) read ∙ alone-more c mid.tokens mid.names some

    pub read-done : (labels : List (List ℕ)) → true ≡ has_no_token mid.tokens → TakesTokens start mid → NewLabels mid labels → Parses names (condition_of text names) c labels
    read-done labels none on new =
        let known : mid.known ≡ names = on.known ∙ ap (λ (l : ReaderState). l.known) start_is in
        record {
          read = from_start ∙ ap (λ r. r >>= nothing_after) read ∙ alone-done c mid.tokens mid.names none
              ∙ ap (λ ns. Ok (c, ns)) (new.names ∙ ap (λ ns. ns ++ labels) known);
          new = subst (λ ns. AreNew ns labels) known new.new;
          few = new.few;
        }
