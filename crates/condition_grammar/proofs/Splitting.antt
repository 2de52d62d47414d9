-- The tokens of a text by its first token and what stands after that.
use Rattle.std.proofs.Common.{◌≡◌, ◌≢◌, ℕ, zero, suc, ◌-◌, ◌≤◌, true, false, cond, List, [], ◌∷◌, length, drop, ◌++◌, Option, None, Some, option_map, option_and_then, refl, sym, ap, ◌∙◌, arith, append_assoc, append-nil}
use Rattle.line_fields.specs.meaning.Fields.{is_blank, trim_start}
use Rattle.condition_grammar.specs.meaning.Token.{Token}
use Rattle.condition_grammar.specs.meaning.Lexing.{token_at, tokens_from, tokens_of}

tokens_from-drop : (k : ℕ) (bs : List ℕ) → tokens_from k bs ≡ tokens_from 0 (drop k bs)
tokens_from-drop zero [] = refl
tokens_from-drop zero (b ∷ bs) = refl
tokens_from-drop (suc k) [] = refl
tokens_from-drop (suc k) (b ∷ bs) = tokens_from-drop k bs

-- a token, where there is one, before the tokens after it
abbrev with_front : Option (Token × ℕ) → List ℕ → Option (List Token)
with_front o bs = option_and_then (λ t. option_map (λ ts. t.0 ∷ ts) (tokens_from (t.1 - 1) bs)) o

module _ (b : ℕ) (bs : List ℕ) where
  trim-blank : is_blank b ≡ true → trim_start (b ∷ bs) ≡ trim_start bs
  trim-blank e = ap (λ t. cond t (trim_start bs) (b ∷ bs)) e

  trim-front : is_blank b ≡ false → trim_start (b ∷ bs) ≡ b ∷ bs
  trim-front e = ap (λ t. cond t (trim_start bs) (b ∷ bs)) e

  tokens-blank : is_blank b ≡ true → tokens_from 0 (b ∷ bs) ≡ tokens_from 0 bs
  tokens-blank e = ap (λ t. cond t (tokens_from 0 bs) (with_front (token_at (b ∷ bs)) bs)) e

  tokens-front : is_blank b ≡ false → tokens_from 0 (b ∷ bs) ≡ with_front (token_at (b ∷ bs)) bs
  tokens-front e = ap (λ t. cond t (tokens_from 0 bs) (with_front (token_at (b ∷ bs)) bs)) e

  drop-front : (size : ℕ) → 1 ≤ size → drop (size - 1) bs ≡ drop size (b ∷ bs)
  drop-front zero h = absurd (omega arith)
  drop-front (suc k) h = ap (λ n. drop n bs) (let e : suc k - 1 ≡ k = omega arith in e)

-- a text whose first token is this one
from_front : (text : List ℕ) (t : Token) (size : ℕ) → token_at (trim_start text) ≡ Some (t, size) → 1 ≤ size
    → tokens_from 0 text ≡ option_map (λ ts. t ∷ ts) (tokens_from 0 (drop size (trim_start text)))
from_front [] t size at some = absurd (let lost : None ≡ Some (t, size) = at in cc)
from_front (b ∷ bs) t size at some = elim (is_blank b) as (λ k. is_blank b ≡ k → tokens_from 0 (b ∷ bs) ≡ option_map (λ ts. t ∷ ts) (tokens_from 0 (drop size (trim_start (b ∷ bs))))) [
  | true ↦ λ e. tokens-blank b bs e ∙ from_front bs t size (ap token_at (sym (trim-blank b bs e)) ∙ at) some
      ∙ ap (λ x. option_map (λ ts. t ∷ ts) (tokens_from 0 (drop size x))) (sym (trim-blank b bs e))
  | false ↦ λ e. tokens-front b bs e
      ∙ ap (λ o. with_front o bs) (ap token_at (sym (trim-front b bs e)) ∙ at)
      ∙ ap (option_map (λ ts. t ∷ ts)) (tokens_from-drop (size - 1) bs ∙ ap (tokens_from 0) (drop-front b bs size some))
      ∙ ap (λ x. option_map (λ ts. t ∷ ts) (tokens_from 0 (drop size x))) (sym (trim-front b bs e))
] refl

-- a text of which only blanks are left
from_blanks : (text : List ℕ) → trim_start text ≡ [] → tokens_from 0 text ≡ Some []
from_blanks [] none = refl
from_blanks (b ∷ bs) none = elim (is_blank b) as (λ k. is_blank b ≡ k → tokens_from 0 (b ∷ bs) ≡ Some []) [
  | true ↦ λ e. tokens-blank b bs e ∙ from_blanks bs (sym (trim-blank b bs e) ∙ none)
  | false ↦ λ e. absurd (let some : b ∷ bs ≡ [] = sym (trim-front b bs e) ∙ none in cc)
] refl

-- a text whose first byte that isn't blank begins no token
from_other : (text : List ℕ) → trim_start text ≢ [] → token_at (trim_start text) ≡ None → tokens_from 0 text ≡ None
from_other [] some lost = absurd (some refl)
from_other (b ∷ bs) some lost = elim (is_blank b) as (λ k. is_blank b ≡ k → tokens_from 0 (b ∷ bs) ≡ None) [
  | true ↦ λ e. tokens-blank b bs e ∙ from_other bs (λ none. some (trim-blank b bs e ∙ none)) (ap token_at (sym (trim-blank b bs e)) ∙ lost)
  | false ↦ λ e. tokens-front b bs e ∙ ap (λ o. with_front o bs) (ap token_at (sym (trim-front b bs e)) ∙ lost)
] refl

module _ (text : List ℕ) where
  pub tokens_of-front : (t : Token) (size : ℕ) → token_at (trim_start text) ≡ Some (t, size) → 1 ≤ size
      → tokens_of text ≡ option_map (λ ts. t ∷ ts) (tokens_of (drop size (trim_start text)))
  unfolding tokens_of
  tokens_of-front t size at some = from_front text t size at some

  pub tokens_of-blanks : trim_start text ≡ [] → tokens_of text ≡ Some []
  unfolding tokens_of
  tokens_of-blanks none = from_blanks text none

  pub tokens_of-other : trim_start text ≢ [] → token_at (trim_start text) ≡ None → tokens_of text ≡ None
  unfolding tokens_of
  tokens_of-other some lost = from_other text some lost

pub trim_start-trim_start : (text : List ℕ) → trim_start (trim_start text) ≡ trim_start text
trim_start-trim_start [] = refl
trim_start-trim_start (b ∷ bs) = elim (is_blank b) as (λ k. is_blank b ≡ k → trim_start (trim_start (b ∷ bs)) ≡ trim_start (b ∷ bs)) [
  | true ↦ λ e. ap trim_start (trim-blank b bs e) ∙ trim_start-trim_start bs ∙ sym (trim-blank b bs e)
  | false ↦ λ e. ap trim_start (trim-front b bs e)
] refl

pub length-trim_start : (text : List ℕ) → length (trim_start text) ≤ length text
length-trim_start [] = omega arith
length-trim_start (b ∷ bs) = elim (is_blank b) as (λ k. is_blank b ≡ k → length (trim_start (b ∷ bs)) ≤ length (b ∷ bs)) [
  | true ↦ λ e. omega (arith, length-trim_start bs, ap length (trim-blank b bs e))
  | false ↦ λ e. omega (arith, ap length (trim-front b bs e))
] refl

tokens_from-trim_start : (text : List ℕ) → tokens_from 0 (trim_start text) ≡ tokens_from 0 text
tokens_from-trim_start [] = refl
tokens_from-trim_start (b ∷ bs) = elim (is_blank b) as (λ k. is_blank b ≡ k → tokens_from 0 (trim_start (b ∷ bs)) ≡ tokens_from 0 (b ∷ bs)) [
  | true ↦ λ e. ap (tokens_from 0) (trim-blank b bs e) ∙ tokens_from-trim_start bs ∙ sym (tokens-blank b bs e)
  | false ↦ λ e. ap (tokens_from 0) (trim-front b bs e)
] refl

-- cutting

cut_more : (t : Token) (cut : List Token) (o : Option (List Token)) → option_map (λ ts. cut ++ ts) (option_map (λ ts. t ∷ ts) o) ≡ option_map (λ ts. (cut ++ t ∷ []) ++ ts) o
cut_more t cut None = refl
cut_more t cut (Some ts) = ap Some (sym (append_assoc cut (t ∷ []) ts))

pub cut_first : (text front : List ℕ) → front ≡ trim_start text → tokens_of text ≡ option_map (λ ts. [] ++ ts) (tokens_of front)
unfolding tokens_of
cut_first text front e = sym (ap (λ f. option_map (λ ts. [] ++ ts) (tokens_from 0 f)) e ∙ ap (option_map (λ ts. [] ++ ts)) (tokens_from-trim_start text) ∙ from_none (tokens_from 0 text))
  where
    from_none : (o : Option (List Token)) → option_map (λ ts. [] ++ ts) o ≡ o
    from_none None = refl
    from_none (Some ts) = refl

module _ (front : List ℕ) (trimmed : trim_start front ≡ front) (cut : List Token) where
  pub cut_other : front ≢ [] → token_at front ≡ None → option_map (λ ts. cut ++ ts) (tokens_of front) ≡ None
  cut_other some lost = ap (option_map (λ ts. cut ++ ts)) (tokens_of-other front (λ none. some (sym trimmed ∙ none)) (ap token_at trimmed ∙ lost))

  pub cut_end : front ≡ [] → option_map (λ ts. cut ++ ts) (tokens_of front) ≡ Some cut
  cut_end none = ap (option_map (λ ts. cut ++ ts)) (tokens_of-blanks front (trimmed ∙ none)) ∙ ap Some (append-nil cut)

  pub cut_next : (behind later : List ℕ) (t : Token) (size : ℕ) → token_at front ≡ Some (t, size) → 1 ≤ size → behind ≡ drop size front → later ≡ trim_start behind
      → option_map (λ ts. cut ++ ts) (tokens_of front) ≡ option_map (λ ts. (cut ++ t ∷ []) ++ ts) (tokens_of later)
  unfolding tokens_of
  cut_next behind later t size at some behind_is later_is =
      ap (option_map (λ ts. cut ++ ts)) (from_front front t size (ap token_at trimmed ∙ at) some)
      ∙ cut_more t cut (tokens_from 0 (drop size (trim_start front)))
      ∙ ap (option_map (λ ts. (cut ++ t ∷ []) ++ ts))
      (ap (λ f. tokens_from 0 (drop size f)) trimmed ∙ ap (tokens_from 0) (sym behind_is) ∙ sym (tokens_from-trim_start behind) ∙ ap (tokens_from 0) (sym later_is))

pub length-0 : (xs : List ℕ) → length xs ≡ 0 → xs ≡ []
length-0 [] e = refl
length-0 (x ∷ xs) e = absurd (omega arith)
