-- The number of a label among names and the labels that they lack.
use Rattle.std.proofs.Common.{◌≡◌, ℕ, ◌+◌, Bool, true, false, not, cond, ltb, inl, inr, List, [], ◌∷◌, ◌++◌, map, length, position, option_map, Option, None, Some, IsTrue, refl, sym, ap, subst, ◌∙◌, arith, length-append, append_assoc, append-nil}
use Rattle.std.specs.List.{position_or_len}
use Rattle.std.specs.Str.{bytes_eq}
use Rattle.std.proofs.lemmas.Bool.{lt-ltb, le-ltb, cases_lt}
use Rattle.std.proofs.lemmas.List.{length-map, map-append}
use Rattle.line_fields.specs.meaning.Fields.{is_label_word}
use Rattle.line_fields.specs.meaning.Names.{Names, number_in}
use Rattle.condition_grammar.specs.meaning.Grammar.{label_number, label_number_by}
use Rattle.condition_grammar.specs.calls.Reading.{AreNew}

-- a place one further on
abbrev one_on : Option ℕ → Option ℕ
one_on o = option_map (λ i. 1 + i) o

one_on-place : (n l : ℕ) → cond (ltb (1 + n) (1 + l)) (Some (1 + n)) None ≡ one_on (cond (ltb n l) (Some n) None)
one_on-place n l = elim (cases_lt n l) [
  | inl within ↦ ap (λ t. cond t (Some (1 + n)) None) (lt-ltb (1 + n) (1 + l) (omega arith)) ∙ ap (λ t. one_on (cond t (Some n) None)) (sym (lt-ltb n l within))
  | inr past ↦ ap (λ t. cond t (Some (1 + n)) None) (le-ltb (1 + n) (1 + l) (omega arith)) ∙ ap (λ t. one_on (cond t (Some n) None)) (sym (le-ltb n l past))
]

module _ {X : Type 0} (p : X → Bool) where
  pub position-here : (x : X) (xs : List X) → p x ≡ true → position p (x ∷ xs) ≡ Some 0
  position-here x xs e =
      ap (λ t. cond (ltb (cond (not t) (1 + position_or_len p xs) 0) (length (x ∷ xs))) (Some (cond (not t) (1 + position_or_len p xs) 0)) None) e
      ∙ ap (λ t. cond t (Some 0) None) (lt-ltb 0 (length (x ∷ xs)) (omega arith))

  pub position-later : (x : X) (xs : List X) → p x ≡ false → position p (x ∷ xs) ≡ one_on (position p xs)
  position-later x xs e =
      ap (λ t. cond (ltb (cond (not t) (1 + position_or_len p xs) 0) (length (x ∷ xs))) (Some (cond (not t) (1 + position_or_len p xs) 0)) None) e
      ∙ ap (λ l. cond (ltb (1 + position_or_len p xs) l) (Some (1 + position_or_len p xs)) None) (let s : length (x ∷ xs) ≡ 1 + length xs = omega arith in s)
      ∙ one_on-place (position_or_len p xs) (length xs)

-- a place in the first list, or one after it
abbrev pub or_behind : ℕ → Option ℕ → Option ℕ → Option ℕ
or_behind n (Some i) o = Some i
or_behind n None o = option_map (λ i. n + i) o

one_on-or_behind : (n : ℕ) (o q : Option ℕ) → one_on (or_behind n o q) ≡ or_behind (1 + n) (one_on o) q
one_on-or_behind n (Some i) q = refl
one_on-or_behind n None None = refl
one_on-or_behind n None (Some i) = ap Some (let e : 1 + (n + i) ≡ 1 + n + i = omega arith in e)

or_behind-0 : (o : Option ℕ) → o ≡ or_behind 0 None o
or_behind-0 None = refl
or_behind-0 (Some i) = ap Some (let e : i ≡ 0 + i = omega arith in e)

module _ {X : Type 0} (p : X → Bool) where
  pub position-append : (xs ys : List X) → position p (xs ++ ys) ≡ or_behind (length xs) (position p xs) (position p ys)
  position-append [] ys = or_behind-0 (position p ys)
  position-append (x ∷ xs) ys = elim (p x) as (λ t. p x ≡ t → position p ((x ∷ xs) ++ ys) ≡ or_behind (length (x ∷ xs)) (position p (x ∷ xs)) (position p ys)) [
    | true ↦ λ e. position-here p x (xs ++ ys) e ∙ ap (λ o. or_behind (length (x ∷ xs)) o (position p ys)) (sym (position-here p x xs e))
    | false ↦ λ e.
        position-later p x (xs ++ ys) e
        ∙ ap one_on (position-append xs ys)
        ∙ one_on-or_behind (length xs) (position p xs) (position p ys)
        ∙ ap (λ n. or_behind n (one_on (position p xs)) (position p ys)) (let s : 1 + length xs ≡ length (x ∷ xs) = omega arith in s)
        ∙ ap (λ o. or_behind (length (x ∷ xs)) o (position p ys)) (sym (position-later p x xs e))
  ] refl

module _ {X Y : Type 0} (f : X → Y) (p : Y → Bool) where
  pub position-map : (xs : List X) → position p (map f xs) ≡ position (λ x. p (f x)) xs
  position-map [] = refl
  position-map (x ∷ xs) = elim (p (f x)) as (λ t. p (f x) ≡ t → position p (map f (x ∷ xs)) ≡ position (λ x. p (f x)) (x ∷ xs)) [
    | true ↦ λ e. position-here p (f x) (map f xs) e ∙ sym (position-here (λ x. p (f x)) x xs e)
    | false ↦ λ e. position-later p (f x) (map f xs) e ∙ ap one_on (position-map xs) ∙ sym (position-later (λ x. p (f x)) x xs e)
  ] refl

-- labels that are put after names

pub number_in-append : (names labels : Names) (label : List ℕ) → number_in (names ++ labels) label ≡ or_behind (length names) (number_in names label) (number_in labels label)
number_in-append names labels label = position-append (bytes_eq label) names labels

module _ (names : Names) (label : List ℕ) where
  pub numbered-known : (n : ℕ) → number_in names label ≡ Some n → (n, names) ≡ label_number names label
  numbered-known n known = sym (ap (label_number_by names label) known)

  pub numbered-new : number_in names label ≡ None → (length names, names ++ label ∷ []) ≡ label_number names label
  numbered-new new = sym (ap (label_number_by names label) new)

pub AreNew-push : (names labels : Names) (label : List ℕ) → AreNew names labels → IsTrue (is_label_word label) → number_in (names ++ labels) label ≡ None → AreNew names (labels ++ label ∷ [])
AreNew-push names [] label are form new = (form, subst (λ ns. number_in ns label ≡ None) (append-nil names) new, tt)
AreNew-push names (l ∷ labels) label are form new =
    (are.0, are.1, AreNew-push (names ++ l ∷ []) labels label are.2 form (ap (λ ns. number_in ns label) (append_assoc names (l ∷ []) labels) ∙ new))

-- the number of a label after names and the labels that they lack, as it is looked up
module _ (names labels : Names) (label : List ℕ) where
  pub numbered-named : (n : ℕ) → Some n ≡ number_in names label → (n, names ++ labels) ≡ label_number (names ++ labels) label
  numbered-named n known =
      numbered-known (names ++ labels) label n
      (number_in-append names labels label ∙ ap (λ o. or_behind (length names) o (number_in labels label)) (sym known))

  module _ (held : ℕ) (held_is : held ≡ length names) (new : None ≡ number_in names label) where
    behind_names : (o : Option ℕ) → o ≡ number_in labels label → number_in (names ++ labels) label ≡ option_map (λ i. held + i) o
    behind_names o at =
        number_in-append names labels label
        ∙ ap (λ o. or_behind (length names) o (number_in labels label)) (sym new)
        ∙ ap (option_map (λ i. length names + i)) (sym at)
        ∙ ap (λ n. option_map (λ i. n + i) o) (sym held_is)

    pub numbered-put : (i : ℕ) → Some i ≡ number_in labels label → (held + i, names ++ labels) ≡ label_number (names ++ labels) label
    numbered-put i at = numbered-known (names ++ labels) label (held + i) (behind_names (Some i) at)

    module _ (absent : None ≡ number_in labels label) (later : Names) (later_is : later ≡ labels ++ label ∷ []) where
      pub numbered-pushed : (count : ℕ) → count ≡ length labels → (held + count, names ++ later) ≡ label_number (names ++ labels) label
      numbered-pushed count count_is =
          ap (λ ls. (held + count, names ++ ls)) later_is
          ∙ ap (λ ns. (held + count, ns)) (sym (append_assoc names labels (label ∷ [])))
          ∙ ap (λ n. (n, (names ++ labels) ++ label ∷ [])) (let e : held + count ≡ length (names ++ labels) = omega (arith, length-append names labels) in e)
          ∙ numbered-new (names ++ labels) label (behind_names None absent)

      pub AreNew-pushed : IsTrue (is_label_word label) → AreNew names labels → AreNew names later
      AreNew-pushed form are = subst (AreNew names) (sym later_is) (AreNew-push names labels label are form (behind_names None absent))

-- the same of references to labels
pub number_in-map : {X : Type 0} (f : X → List ℕ) (xs seen : List X) (label : List ℕ) (r : Option ℕ) → seen ≡ xs → r ≡ position (λ x. bytes_eq label (f x)) seen → r ≡ number_in (map f xs) label
number_in-map f xs seen label r same at = at ∙ ap (position (λ x. bytes_eq label (f x))) same ∙ sym (position-map f (bytes_eq label) xs)

pub map-push : {X Y : Type 0} (f : X → Y) (xs later : List X) (x : X) → later ≡ xs ++ x ∷ [] → map f later ≡ map f xs ++ f x ∷ []
map-push f xs later x e = ap (map f) e ∙ map-append f xs (x ∷ [])

pub length-map_is : {X : Type 0} (f : X → List ℕ) (xs : List X) (n : ℕ) → n ≡ length xs → n ≡ length (map f xs)
length-map_is f xs n e = e ∙ sym (length-map xs f)
