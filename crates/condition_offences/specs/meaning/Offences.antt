-- Where tokens first offend against the grammar of conditions, and what a text is refused for.
use Rattle.std.specs.Prelude.{◌≡◌, ◌+◌, ◌≤◌, ◌<◌, ◌⊎◌, ℕ, codes, List, [], ◌∷◌, ◌++◌, length, None, Some}
use Rattle.line_fields.specs.meaning.Names.{Names}
use Rattle.conditions.specs.declared.condition.Cond.{Cond}
use Rattle.conditions.specs.meaning.Written.{most_depth, most_tokens}
use Rattle.condition_grammar.specs.declared.fault.ConditionKind.{ConditionKind}
use Rattle.condition_grammar.specs.declared.fault.ConditionKind.TheVariants.{BadForm, TooDeep, TooLong}
use Rattle.condition_grammar.specs.meaning.Derivations.{Derives, cond}
use Rattle.condition_grammar.specs.meaning.Lexing.{tokens_of}
use Rattle.condition_grammar.specs.meaning.Token.{Token, word, opening}

-- The tokens derive a condition, with at most so many `not` and parentheses open at once.
pub record IsCondition (most : ℕ) (tokens : List Token) (names : Names) : Type 0 where
  pub depth : ℕ
  pub shallow : depth ≤ most
  pub said : Cond
  pub after : Names
  pub derives : Derives cond tokens depth names said after

-- With some more tokens after them these derive a condition. How many are added has no limit: whether a text has too many
-- tokens is asked of the whole text, before they are read.
pub record CanBeCompleted (most : ℕ) (tokens : List Token) (names : Names) : Type 0 where
  pub more : List Token
  pub condition : IsCondition most (tokens ++ more) names

-- The first offence in these tokens: what stands before the offending token can be completed to a condition, and what
-- ends with it cannot.
pub record Offence (tokens : List Token) (names : Names) : Type 0 where
  pub prefix : List Token
  pub token : Token
  pub suffix : List Token
  pub split : tokens ≡ prefix ++ token ∷ suffix
  pub completable : CanBeCompleted most_depth prefix names
  pub incompletable : CanBeCompleted most_depth (prefix ++ token ∷ []) names → ⊥

-- No condition goes on with the offending token, however many `not` and parentheses it may open.
abbrev pub IsMisplaced : (tokens : List Token) (names : Names) → Offence tokens names → Type 0
IsMisplaced tokens names o = (most : ℕ) → CanBeCompleted most (o.prefix ++ o.token ∷ []) names → ⊥

-- The offending token is a `not` or a `(`, and it opens the 33rd: a condition in which 33 are open at once goes on with it.
pub record OpensTooDeep (tokens : List Token) (names : Names) (o : Offence tokens names) : Type 0 where
  pub opens : (o.token ≡ word (codes "not")) ⊎ (o.token ≡ opening)
  pub deeper : CanBeCompleted (most_depth + 1) (o.prefix ++ o.token ∷ []) names

-- The text is cut into these tokens, and there are not too many.
pub record IsCut (text : List ℕ) (tokens : List Token) : Type 0 where
  pub cut : tokens_of text ≡ Some tokens
  pub few : length tokens ≤ most_tokens

-- What a text is refused for.
pub data IsRefused (text : List ℕ) (names : Names) : ConditionKind → Type 0 where
  -- a byte that isn't blank begins no token
  no_token : tokens_of text ≡ None → IsRefused text names BadForm
  -- there are more than 512 tokens
  too_many_tokens : (tokens : List Token) → tokens_of text ≡ Some tokens → most_tokens < length tokens → IsRefused text names TooLong
  -- the text ends early: its tokens can be completed to a condition, and are none
  ends_early : (tokens : List Token) → IsCut text tokens → CanBeCompleted most_depth tokens names → (IsCondition most_depth tokens names → ⊥) → IsRefused text names BadForm
  -- the first token that offends is one after which no condition can be completed
  misplaced_token : (tokens : List Token) → IsCut text tokens → (o : Offence tokens names) → IsMisplaced tokens names o → IsRefused text names BadForm
  -- the first token that offends opens the 33rd `not` or parenthesis
  opens_too_deep : (tokens : List Token) → IsCut text tokens → (o : Offence tokens names) → OpensTooDeep tokens names o → IsRefused text names TooDeep
