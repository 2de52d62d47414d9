-- The tokens that the reader's code hands out.
use Rattle.std.specs.Prelude.{◌≡◌, ℕ, Bool, true, false, List, [], ◌∷◌, Option, None, Some}
use Rattle.condition_grammar.specs.meaning.Grammar.{first_of}
use Rattle.condition_grammar.specs.meaning.Lexing.{tokens_of}
use Rattle.condition_grammar.specs.declared.fault.ConditionFault.{ConditionFault}
use Rattle.condition_grammar.specs.declared.fault.ConditionFault.TheVariants as error
use Rattle.condition_grammar.specs.declared.fault.ConditionKind.TheVariants.{BadForm}
use Rattle.condition_grammar.specs.meaning.Token as spec
use Rattle.condition_grammar.specs.declared.token.Token.{Token}
use Rattle.condition_grammar.specs.declared.token.Token.TheVariants.{Word, Number, Open, Close, Comma, Semicolon, Plus, Times, Op}

abbrev pub token_of : Token → spec.Token
token_of (Word w) = spec.word w.now
token_of (Number d) = spec.number d.now
token_of Open = spec.opening
token_of Close = spec.closing
token_of Comma = spec.comma
token_of Semicolon = spec.semicolon
token_of Plus = spec.plus
token_of Times = spec.times
token_of (Op o) = spec.op o

-- a text that is refused as it is cut has no tokens, unless memory ran out
abbrev pub RefusesText : List ℕ → ConditionFault → Type 0
RefusesText text error.NoMemory = Unit {0}
RefusesText text (error.Refused f) = (tokens_of text ≡ None) × (f ≡ BadForm)

-- the first of the tokens `old` was taken, if it is of the kind that is asked for; else nothing changed
abbrev pub TakesFirst : {A : Type 0} → (spec.Token → Option A) → List spec.Token → Option A → List spec.Token → Type 0
TakesFirst kind old (Some x) new = first_of kind old ≡ Some (x, new)
TakesFirst kind old None new = (first_of kind old ≡ None) × (new ≡ old)

abbrev pub has_no_token : List spec.Token → Bool
has_no_token [] = true
has_no_token (t ∷ ts) = false
