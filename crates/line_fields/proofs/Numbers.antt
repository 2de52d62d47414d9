-- The numbers of names, as their keys show them, and with one name more.
use Rattle.std.proofs.Common.{◌≡◌, ℕ, zero, suc, ◌+◌, ◌<◌, ◌≤◌, Bool, true, false, not, cond, ltb, eqb, ◌&&◌, ◌⊎◌, inl, inr, List, [], ◌∷◌, ◌++◌, map, length, position, slice_get, option_map, get_or, Option, None, Some, refl, sym, subst, ap, ◌∙◌, arith, length-append}
use Rattle.std.specs.List.{list_any, list_all, position_or_len}
use Rattle.std.specs.Str.{bytes_eq}
use Rattle.std.proofs.lemmas.Bool.{and_parts, cases_lt, eq-eqb, le-ltb, lt-ltb, ne_eqb}
use Rattle.std.proofs.lemmas.List.{length-map, map-append}
use Rattle.std.proofs.lemmas.List.Folds.{position_or_len_push, list_all-append}
use Rattle.std.proofs.lemmas.List.Quantifiers.{position-Some}
use Rattle.std.proofs.lemmas.List.Sums.{prefix_len-le-length}
use Rattle.std.proofs.lemmas.Option.{slice_get-get_or, slice_get-map}
use Rattle.std.proofs.lemmas.Slice.Eq.{bytes_eq-Decides}
use Rattle.line_fields.specs.meaning.Fields.{is_label_word}
use Rattle.line_fields.specs.meaning.Names.{Names, AreNames, most_names, number_in, with_name, interning}

module _ {X Y : Type 0} (f : X → Y) (p : Y → Bool) where
  position_or_len-map : (xs : List X) → position_or_len p (map f xs) ≡ position_or_len (λ x. p (f x)) xs
  position_or_len-map [] = refl
  position_or_len-map (x ∷ xs) = ap (λ n. cond (not (p (f x))) (1 + n) 0) (position_or_len-map xs)

  position-map : (xs : List X) → position p (map f xs) ≡ position (λ x. p (f x)) xs
  position-map xs =
      let n = position_or_len (λ x. p (f x)) xs in
      ap (λ n. cond (ltb n (length (map f xs))) (Some n) None) (position_or_len-map xs)
      ∙ ap (λ l. cond (ltb n l) (Some n) None) (length-map xs f)

-- a place that is within the list
place_within : (n l i : ℕ) → n ≡ i → i < l → cond (ltb n l) (Some n) None ≡ Some i
place_within n l i same within =
    ap (λ k. cond (ltb k l) (Some k) None) same ∙ ap (λ t. cond t (Some i) None) (lt-ltb i l within)

found_within : (n l i : ℕ) → cond (ltb n l) (Some n) None ≡ Some i → (n ≡ i) × (n < l)
found_within n l i at = elim (cases_lt n l) [
  | inl within ↦ let found : Some n ≡ Some i = sym (ap (λ t. cond t (Some n) None) (lt-ltb n l within)) ∙ at in (cc, within)
  | inr past ↦ absurd (let lost : None ≡ Some i = sym (ap (λ t. cond t (Some n) None) (le-ltb n l past)) ∙ at in cc)
]

lost_past : (n l : ℕ) → cond (ltb n l) (Some n) None ≡ None → l ≤ n
lost_past n l lost = elim (cases_lt n l) [
  | inl within ↦ absurd (let found : Some n ≡ None = sym (ap (λ t. cond t (Some n) None) (lt-ltb n l within)) ∙ lost in cc)
  | inr past ↦ past
]

module _ {X : Type 0} (p : X → Bool) (xs : List X) (y : X) where
  -- what was found stays where it is
  position-push_known : (i : ℕ) → position p xs ≡ Some i → position p (xs ++ y ∷ []) ≡ Some i
  position-push_known i at =
      let n = position_or_len p xs in
      let found = found_within n (length xs) i at in
      let other : eqb n (length xs) ≡ false = ne_eqb n (length xs) (λ e. omega arith) in
      place_within _ (length (xs ++ y ∷ [])) i
      (position_or_len_push p xs y ∙ ap (λ t. cond t (length xs + cond (p y) 0 1) n) other ∙ found.0)
      (omega (arith, length-append xs (y ∷ [])))

  -- what was not found is found at the end
  position-push_new : position p xs ≡ None → p y ≡ true → position p (xs ++ y ∷ []) ≡ Some (length xs)
  position-push_new lost here =
      let n = position_or_len p xs in
      let past = lost_past n (length xs) lost in
      let all = prefix_len-le-length (λ x. not (p x)) xs in
      let same : eqb n (length xs) ≡ true = eq-eqb n (length xs) (omega arith) in
      place_within _ (length (xs ++ y ∷ [])) (length xs)
      (position_or_len_push p xs y
      ∙ ap (λ t. cond t (length xs + cond (p y) 0 1) n) same
      ∙ ap (λ t. length xs + cond t 0 1) here
      ∙ omega arith)
      (omega (arith, length-append xs (y ∷ [])))

slice_get-push : {X : Type 0} (xs : List X) (y : X) (i : ℕ) (x : X) → slice_get xs i ≡ Some x → slice_get (xs ++ y ∷ []) i ≡ Some x
slice_get-push [] y i x at = absurd (let none : None ≡ Some x = at in cc)
slice_get-push (z ∷ xs) y zero x at = at
slice_get-push (z ∷ xs) y (suc i) x at = slice_get-push xs y i x at

-- an item of the list with one more is one of the list, or the new one
slice_get-push_cases : {X : Type 0} (xs : List X) (y : X) (i : ℕ) (x : X) → slice_get (xs ++ y ∷ []) i ≡ Some x
    → (slice_get xs i ≡ Some x) ⊎ ((length xs ≡ i) × (x ≡ y))
slice_get-push_cases [] y zero x at = inr (refl, let e : Some y ≡ Some x = at in cc)
slice_get-push_cases [] y (suc i) x at = absurd (let none : None ≡ Some x = at in cc)
slice_get-push_cases (z ∷ xs) y zero x at = inl at
slice_get-push_cases (z ∷ xs) y (suc i) x at = elim (slice_get-push_cases xs y i x at) [
  | inl before ↦ inl before
  | inr last ↦ inr (omega (arith, last.0), last.1)
]

-- an item of a list whose items all pass a test passes it
list_all-slice_get : {X : Type 0} (p : X → Bool) (xs : List X) (i : ℕ) (x : X) → list_all p xs ≡ true → slice_get xs i ≡ Some x → p x ≡ true
list_all-slice_get p [] i x all at = absurd (let none : None ≡ Some x = at in cc)
list_all-slice_get p (y ∷ xs) zero x all at = let same : Some y ≡ Some x = at in let equal : y ≡ x = cc in ap p (sym equal) ∙ (and_parts (p y) (list_all p xs) all).0
list_all-slice_get p (y ∷ xs) (suc i) x all at = list_all-slice_get p xs i x (and_parts (p y) (list_all p xs) all).1 at

-- the number of a name is its place
pub slice_get-number_in : (names : Names) (name : List ℕ) (n : ℕ) → number_in names name ≡ Some n → slice_get names n ≡ Some name
slice_get-number_in names name n at =
    let found = position-Some (bytes_eq name) names n [] at in
    slice_get-get_or names n [] found.0 ∙ ap Some (sym ((bytes_eq-Decides name (get_or names n [])).0 found.1))

number_in-new : (names : Names) (name : List ℕ) → number_in names name ≡ None → number_in (names ++ name ∷ []) name ≡ Some (length names)
number_in-new names name new = position-push_new (bytes_eq name) names name new ((bytes_eq-Decides name name).1 refl)

-- names with a new one are names
AreNames-push : (names : Names) (name : List ℕ) → AreNames names → number_in names name ≡ None → length names < most_names → is_label_word name ≡ true
    → AreNames (names ++ name ∷ [])
AreNames-push names name are new room label = record {
  first = slice_get-push names name 0 _ are.first;
  labels = list_all-append is_label_word names (name ∷ []) ∙ ap (λ b. b && (is_label_word name && true)) are.labels ∙ ap (λ b. b && true) label;
  distinct = λ i other at. elim (slice_get-push_cases names name i other at) [
    | inl before ↦ position-push_known (bytes_eq other) names name i (are.distinct i other before)
    | inr last ↦ ap (number_in (names ++ name ∷ [])) last.1 ∙ number_in-new names name new ∙ ap Some last.0
  ];
  few = omega (arith, length-append names (name ∷ []));
}

pub interned-known : (names : Names) (name : List ℕ) (n : ℕ) → number_in names name ≡ Some n → interning names name ≡ Some (n, names)
interned-known names name n known = ap (with_name names name) known

interned-new : (names : Names) (name : List ℕ) → number_in names name ≡ None → length names < most_names → interning names name ≡ Some (length names, names ++ name ∷ [])
interned-new names name new room =
    ap (with_name names name) new
    ∙ ap (λ t. cond t (Some (length names, names ++ name ∷ [])) None) (lt-ltb (length names) most_names room)

interned-full : (names : Names) (name : List ℕ) → number_in names name ≡ None → most_names ≤ length names → interning names name ≡ None
interned-full names name new full =
    ap (with_name names name) new
    ∙ ap (λ t. cond t (Some (length names, names ++ name ∷ [])) None) (le-ltb (length names) most_names full)

-- keys by which names are looked up
module _ {X : Type 0} (f : X → List ℕ) where
  pub number_in-keys : (keys : List X) (names : Names) (name : List ℕ) (r : Option ℕ) → map f keys ≡ names → r ≡ position (λ x. bytes_eq name (f x)) keys → number_in names name ≡ r
  number_in-keys keys names name r seen at =
      ap (λ l. number_in l name) (sym seen) ∙ position-map f (bytes_eq name) keys ∙ sym at

  -- a name that was found at a place has it for its number
  pub number_in-found : (keys : List X) (names : Names) (x : X) (n l : ℕ) (name : List ℕ) → AreNames (map f keys) → map f keys ≡ names → Some x ≡ slice_get keys n → n ≡ l → name ≡ f x
      → number_in names name ≡ Some l
  number_in-found keys names x n l name are seen at place same =
      ap (number_in names) same
      ∙ ap (λ l. number_in l (f x)) (sym seen)
      ∙ are.distinct n (f x) (slice_get-map f keys n ∙ ap (option_map f) (sym at))
      ∙ ap Some place

  -- and it is of label form
  pub is_label-found : (keys : List X) (x : X) (n : ℕ) (name : List ℕ) → AreNames (map f keys) → Some x ≡ slice_get keys n → name ≡ f x → is_label_word name ≡ true
  is_label-found keys x n name are at same =
      ap is_label_word same
      ∙ list_all-slice_get is_label_word (map f keys) n (f x) are.labels (slice_get-map f keys n ∙ ap (option_map f) (sym at))

  -- a key that was not there goes to the end, and its name too
  pub map-insert_new : (old new : List X) (x : X) (name : List ℕ) → new ≡ cond (list_any (λ k. bytes_eq (f x) (f k)) old) old (old ++ x ∷ []) → f x ≡ name
      → list_any (λ k. bytes_eq name (f k)) old ≡ false → map f new ≡ map f old ++ name ∷ []
  map-insert_new old new x name put same absent =
      ap (map f) put
      ∙ ap (λ t. map f (cond t old (old ++ x ∷ []))) (ap (λ n. list_any (λ k. bytes_eq n (f k)) old) same ∙ absent)
      ∙ map-append f old (x ∷ [])
      ∙ ap (λ n. map f old ++ n ∷ []) same

  length-keys : (keys : List X) (names : Names) → map f keys ≡ names → length names ≡ length keys
  length-keys keys names seen = sym (ap length seen) ∙ length-map keys f

  -- a name that was looked up and not found is new
  module _ (keys : List X) (names : Names) (name : List ℕ) (r : Option ℕ) (place : ℕ)
      (seen : map f keys ≡ names) (looked_up : r ≡ position (λ x. bytes_eq name (f x)) keys) (missed : r ≡ None) (end : place ≡ length keys) where
    pub number_in-missed : number_in names name ≡ None
    number_in-missed = number_in-keys keys names name r seen looked_up ∙ missed

    pub interned-missed_full : most_names ≤ place → interning names name ≡ None
    interned-missed_full full = interned-full names name number_in-missed (omega (arith, length-keys keys names seen))

    pub room-missed : place < most_names → length names < most_names
    room-missed room = omega (arith, length-keys keys names seen)

    -- and so it goes to the end
    module _ (later : List X) (put : map f later ≡ map f keys ++ name ∷ []) where
      put_to_names : map f later ≡ names ++ name ∷ []
      put_to_names = put ∙ ap (λ l. l ++ name ∷ []) seen

      pub AreNames-put : AreNames (map f keys) → place < most_names → is_label_word name ≡ true → AreNames (map f later)
      AreNames-put are room label =
          subst AreNames (sym put_to_names) (AreNames-push names name (subst AreNames seen are) number_in-missed (room-missed room) label)

      pub interned-put : place < most_names → interning names name ≡ Some (place, map f later)
      interned-put room =
          interned-new names name number_in-missed (room-missed room)
          ∙ ap (λ n. Some (n, names ++ name ∷ [])) (length-keys keys names seen ∙ sym end)
          ∙ ap (λ l. Some (place, l)) (sym put_to_names)

      pub slice_get-put : slice_get (map f later) place ≡ Some name
      slice_get-put =
          ap (λ l. slice_get l place) put_to_names
          ∙ slice_get-number_in (names ++ name ∷ []) name place (number_in-new names name number_in-missed ∙ ap Some (length-keys keys names seen ∙ sym end))
