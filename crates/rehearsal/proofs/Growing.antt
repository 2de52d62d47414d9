-- Lists of events that grow.
use Rattle.std.proofs.Common.{◌≡◌, ◌<◌, ◌+◌, ◌++◌, ℕ, Bool, cond, List, [], ◌∷◌, map as mapped, filter, length, get_or, take, sym, ap, ◌∙◌}
use Rattle.std.specs.List.{range_with_len}
use Rattle.std.proofs.lemmas.List.{append_assoc}
use Rattle.std.proofs.lemmas.List.Elements.{filter_more}
use Rattle.std.proofs.lemmas.List.FromFn.{map-range_with_len_more}

-- one more of a row
pub listed-next : {A : Type 0} (f : ℕ → A) (a n j : ℕ) (start before after : List A) (x : A) → a + n ≡ j → x ≡ f j → before ≡ start ++ mapped f (range_with_len a n) → after ≡ before ++ x ∷ [] →
    after ≡ start ++ mapped f (range_with_len a (n + 1))
listed-next f a n j start before after x place is was grown =
    grown
    ∙ ap (λ xs. xs ++ x ∷ []) was
    ∙ append_assoc start (mapped f (range_with_len a n)) (x ∷ [])
    ∙ ap (λ y. start ++ (mapped f (range_with_len a n) ++ y ∷ [])) is
    ∙ ap (λ xs. start ++ xs) (sym (map-range_with_len_more f a n j place))

-- one more that a filter keeps, or not
pub kept-next : {A : Type 0} (p : A → Bool) (items : List A) (i : ℕ) (x : A) (before after : List A) → i < length items → x ≡ get_or items i x → before ≡ filter p (take i items) →
    after ≡ before ++ cond (p x) (x ∷ []) [] → after ≡ filter p (take (i + 1) items)
kept-next p items i x before after below is was grown =
    grown ∙ ap (λ xs. xs ++ cond (p x) (x ∷ []) []) was ∙ ap (λ y. filter p (take i items) ++ cond (p y) (y ∷ []) []) is ∙ sym (filter_more p items i x below)
