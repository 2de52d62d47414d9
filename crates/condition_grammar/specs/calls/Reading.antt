-- What the reader of a condition still has, and what its calls answer.
use Rattle.std.specs.Prelude.{◌≡◌, ◌+◌, ◌≤◌, ◌<◌, ◌⊎◌, ℕ, List, [], ◌∷◌, ◌++◌, length, Option, None, Some, Result, Ok, Err, IsTrue, refl}
use Rattle.std.specs.Coded.{Coded, code_by, coded×, coded_ℕ, coded_list}
use Rattle.line_fields.specs.meaning.Fields.{is_label_word}
use Rattle.line_fields.specs.meaning.Names.{Names, number_in}
use Rattle.conditions.specs.meaning.Written.{most_tokens}
use Rattle.conditions.specs.declared.condition.Cond.{Cond}
use Rattle.conditions.specs.declared.condition.Factor.{Factor}
use Rattle.condition_grammar.specs.declared.fault.ConditionKind.{ConditionKind}
use Rattle.condition_grammar.specs.declared.fault.ConditionKind.TheVariants.{BadForm}
use Rattle.condition_grammar.specs.declared.fault.ConditionFault.{ConditionFault}
use Rattle.condition_grammar.specs.declared.fault.ConditionFault.TheVariants as error
use Rattle.condition_grammar.specs.meaning.Token.{Token, plus, tokens_code}
use Rattle.condition_grammar.specs.meaning.Grammar.{tokens_after, use_of}

-- the tokens to come, the names with the labels that came so far, and the names before
pub record ReaderState : Type 0 where
  pub tokens : List Token
  pub names : Names
  pub known : Names

abbrev pub reader_state_code : Coded ReaderState
reader_state_code =
    code_by (List Token × (Names × Names)) (coded× tokens_code (coded× (coded_list (coded_list coded_ℕ)) (coded_list (coded_list coded_ℕ))))
    (λ l. (l.tokens, (l.names, l.known))) (λ p. record { tokens = p.0; names = p.1.0; known = p.1.1 }) (λ _. refl)

-- no label more came
pub record KeepsNames (old new : ReaderState) : Type 0 where
  pub names : new.names ≡ old.names
  pub known : new.known ≡ old.known

-- tokens were taken, and the names before are the same
pub record TakesTokens (old new : ReaderState) : Type 0 where
  pub shorter : length new.tokens ≤ length old.tokens
  pub known : new.known ≡ old.known

-- each of these is a label, and new after the names and the labels before it
abbrev pub AreNew : Names → List (List ℕ) → Type 0
AreNew names [] = Unit {0}
AreNew names (label ∷ labels) = IsTrue (is_label_word label) × (number_in names label ≡ None) × AreNew (names ++ label ∷ []) labels

-- what was read of the tokens, as a production says, or its refusal; or memory ran out
abbrev pub ReadsProduction : {A : Type 0} → Result A ConditionFault → ReaderState → Result (A × List Token × Names) ConditionKind → Type 0
ReadsProduction (Ok x) left read = read ≡ Ok (x, left.tokens, left.names)
ReadsProduction (Err error.NoMemory) left read = Unit {0}
ReadsProduction (Err (error.Refused f)) left read = read ≡ Err f

-- the same of what names no label and takes no memory; the names stay
abbrev pub ReadsTokens : {A : Type 0} → ReaderState → Result A ConditionKind → ReaderState → Result (A × List Token) ConditionKind → Type 0
ReadsTokens old (Ok x) new read = (read ≡ Ok (x, new.tokens)) × (new.names ≡ old.names)
ReadsTokens old (Err f) new read = read ≡ Err f

-- the token was next and was passed, and the names stay; or it wasn't next, and nothing changed
pub record PassesToken (token : Token) (old new : ReaderState) : Type 0 where
  pub passed : tokens_after token old.tokens ≡ Some new.tokens
  pub shorter : length new.tokens + 1 ≡ length old.tokens
  pub names : new.names ≡ old.names
  pub known : new.known ≡ old.known

pub record MissesToken (token : Token) (old new : ReaderState) : Type 0 where
  pub missed : tokens_after token old.tokens ≡ None
  pub unchanged : new ≡ old

-- What was read after a use where there is room for `room` uses more: one of them, where a `+` is next; and
-- else none.
abbrev pub ReadsUse : ℕ → ReaderState → Result (Option Factor) ConditionFault → ReaderState → Type 0
ReadsUse room old (Ok (Some u)) new =
    (0 < room) × (length new.tokens < length old.tokens) × (rest : List Token) × (tokens_after plus old.tokens ≡ Some rest) × (use_of rest old.names ≡ Ok (u, new.tokens, new.names))
ReadsUse room old (Ok None) new = (tokens_after plus old.tokens ≡ None) × (new ≡ old)
ReadsUse room old (Err error.NoMemory) new = Unit {0}
ReadsUse room old (Err (error.Refused f)) new =
    (rest : List Token) × (tokens_after plus old.tokens ≡ Some rest) × (((room ≡ 0) × (f ≡ BadForm)) ⊎ ((0 < room) × (use_of rest old.names ≡ Err f)))

-- the labels that came, each of them new
pub record NewLabels (left : ReaderState) (labels : List (List ℕ)) : Type 0 where
  pub names : left.names ≡ left.known ++ labels
  pub new : AreNew left.known labels
  pub few : length labels ≤ most_tokens

-- a refusal is that of the definition, unless memory ran out
abbrev pub RefusesAs : {A : Type 0} → ConditionFault → Result A ConditionKind → Type 0
RefusesAs error.NoMemory read = Unit {0}
RefusesAs (error.Refused f) read = read ≡ Err f

-- the condition is read with these labels after the names, each of them new
pub record Parses {E : Type 0} (names : Names) (said : Result (Cond × Names) E) (c : Cond) (labels : List (List ℕ)) : Type 0 where
  pub read : said ≡ Ok (c, names ++ labels)
  pub new : AreNew names labels
  pub few : length labels ≤ most_tokens
