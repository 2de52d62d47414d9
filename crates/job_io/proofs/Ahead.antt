-- What the bytes ahead of a reader say of the lines to come.
use Rattle.std.proofs.Common.{◌≡◌, ◌≢◌, ℕ, ◌+◌, ◌<◌, ◌≤◌, true, false, List, [], ◌∷◌, ◌++◌, length, get_or, take, drop, IsTrue, Contains, is_some, ◌↔◌, Option, None, Some, inl, inr, refl, sym, ◌∙◌, ap, subst, arith, append_assoc, length-take}
use Rattle.std.specs.Io.KnownBytes.{IsAtEnd}
use Rattle.std.proofs.lemmas.List.{append-nil, take_all, drop_all, get_or-take, get_or_default, get_or_at, take-append-le, length-take-le, length-append}
use Rattle.std.proofs.lemmas.Bool.{eq-eqb, eqb-true, false≢true, cases_lt, cases_Bool}
use Rattle.memchr.specs.Find.{Nowhere, Passes, is_byte, IsFirstByte}
use Rattle.job_io.specs.calls.Ends.{BothKnown}
use Rattle.job_io.specs.meaning.Lines.{lf, most_line_bytes, HasNoLf, Reading, lines_of, line_text, GivesLine, GivesEnd, StopsInLine, LongLineFollows}
use Rattle.job_io.specs.calls.Reading.{MovesBytes, IsShort, HasLineOf}
use Rattle.job_io.proofs.LinesOf.{lines_of-whole, lines_of-last, lines_of-unfinished, lf_or_none}

-- a search that found no LF in the first n bytes
pub HasNoLf-take : (held : List ℕ) (n : ℕ) → n ≤ length held → Nowhere (Passes (is_byte lf) held) 0 n → HasNoLf (take n held)
HasNoLf-take held n within nowhere k d below same =
    let before : k < n = omega (arith, length-take n held) in
    let byte : get_or held k 0 ≡ lf = get_or_default held k 0 d (omega arith) ∙ sym (get_or-take n held k d before) ∙ same in
    nowhere k (omega arith) before (eq-eqb (get_or held k 0) lf byte)

-- and in none at all
pub HasNoLf-all : (held : List ℕ) → Nowhere (Passes (is_byte lf) held) 0 (length held) → HasNoLf held
HasNoLf-all held nowhere = subst HasNoLf (take_all (length held) held (omega arith)) (HasNoLf-take held (length held) (omega arith) nowhere)

-- a prefix of bytes without LF has none either
pub HasNoLf-front : (text : List ℕ) (n : ℕ) → HasNoLf text → HasNoLf (take n text)
HasNoLf-front text n no_lf k d below same =
    let counted = length-take n text in
    no_lf k d (omega arith) (sym (get_or-take n text k d (omega arith)) ∙ same)

-- more bytes than a line may have, and no LF among them, begin a line that is too long
pub LongLineFollows-from : (text : List ℕ) → HasNoLf (take (most_line_bytes + 1) text) → most_line_bytes < length text → LongLineFollows text
LongLineFollows-from [] no_lf long = absurd (omega arith)
LongLineFollows-from (b ∷ bs) no_lf long =
    elim (lf_or_none (b ∷ bs)) [
      | inl found ↦ (
        record { bytes = found.line; whole = true },
        lines_of found.rest,
        ap lines_of found.split ∙ lines_of-whole found.line found.rest found.no_lf,
        elim (cases_lt most_line_bytes (length found.line)) [
          | inl longer ↦ longer
          | inr shorter ↦
              let here : get_or (b ∷ bs) (length found.line) 0 ≡ lf = ap (λ t. get_or t (length found.line) 0) found.split ∙ get_or_at found.line lf found.rest 0 (length found.line) refl in
              let within : length found.line < length (take (most_line_bytes + 1) (b ∷ bs)) = omega (arith, length-take-le (most_line_bytes + 1) (b ∷ bs) (omega arith)) in
              absurd (no_lf (length found.line) 0 within (get_or-take (most_line_bytes + 1) (b ∷ bs) (length found.line) 0 (omega arith) ∙ here))
        ],
      )
      | inr none ↦ (record { bytes = b ∷ bs; whole = false }, [], lines_of-last b bs none, long)
    ]

-- whether a search found an LF
pub found_lf : (held : List ℕ) (found : Option ℕ) → IsFirstByte (is_byte lf) held found → IsTrue (is_some found) ↔ Contains held lf
found_lf held None nowhere = (λ e. absurd (false≢true e), λ has. absurd (HasNoLf-all held nowhere has.0 lf has.1 has.2))
found_lf held (Some k) found =
    let byte : get_or held k 0 ≡ lf = eqb-true (get_or held k 0) lf found.1 in
    (λ _. (k, found.0.high, get_or_default held k lf 0 found.0.high ∙ byte), λ _. refl)

nil_from_append : (xs ys : List ℕ) → xs ++ ys ≡ [] → xs ≡ []
nil_from_append [] ys none = refl
nil_from_append (x ∷ xs) ys none = cc

BothKnown-weaker : (was is : Option (List ℕ)) (P Q : List ℕ → List ℕ → Type 0) → ((a b : List ℕ) → P a b → Q a b) → BothKnown was is P → BothKnown was is Q
BothKnown-weaker None is P Q weaker known = tt
BothKnown-weaker (Some was) None P Q weaker known = known
BothKnown-weaker (Some was) (Some is) P Q weaker known = weaker was is known

-- ---- each outcome of a call for the next line, from what was taken for it
module _ (was is : Option (List ℕ)) (old new : Reading) where
  pub stops_in_line : IsTrue old.line.whole → MovesBytes old.held new.held was is → IsShort new.held → (old.number ≡ old.most → new.held ≡ []) → BothKnown was is (StopsInLine old new)
  stops_in_line whole taken short within =
      BothKnown-weaker was is (λ a b. old.held ++ a ≡ new.held ++ b) (StopsInLine old new) (λ a b same. record { after_whole = whole; taken = same; no_line = short.no_lf; short = short.short; within = within }) taken

  pub gives_line : (now : List ℕ) (n : ℕ) → MovesBytes old.held now was is → HasLineOf now n → new.line ≡ record { bytes = take n now; whole = true } → new.held ≡ drop (n + 1) now
      → BothKnown was is (GivesLine old new)
  gives_line now n taken found line held =
      BothKnown-weaker was is (λ a b. old.held ++ a ≡ now ++ b) (GivesLine old new) (λ a b same.
      let to_come : old.held ++ a ≡ take n now ++ lf ∷ (drop (n + 1) now ++ b) = same ∙ ap (λ t. t ++ b) found.split ∙ append_assoc (take n now) (lf ∷ drop (n + 1) now) b in
      record {
        lines =
            ap lines_of to_come
            ∙ lines_of-whole (take n now) (drop (n + 1) now ++ b) found.no_lf
            ∙ ap (λ l. l ∷ lines_of (drop (n + 1) now ++ b)) (sym line)
            ∙ ap (λ h. new.line ∷ lines_of (h ++ b)) (sym held);
        bytes =
            to_come
            ∙ sym (append_assoc (take n now) (lf ∷ []) (drop (n + 1) now ++ b))
            ∙ ap (λ l. line_text l ++ (drop (n + 1) now ++ b)) (sym line)
            ∙ ap (λ h. line_text new.line ++ (h ++ b)) (sym held);
      }) taken

  pub more_follows : (now : List ℕ) → MovesBytes old.held now was is → now ≢ [] → BothKnown was is (λ a _. old.held ++ a ≢ [])
  more_follows now taken some =
      BothKnown-weaker was is (λ a b. old.held ++ a ≡ now ++ b) (λ a _. old.held ++ a ≢ []) (λ a b same none. some (nil_from_append now b (sym same ∙ none))) taken

  pub long_line_follows : (now : List ℕ) → MovesBytes old.held now was is → HasNoLf (take (most_line_bytes + 1) now) → most_line_bytes < length now → BothKnown was is (λ a _. LongLineFollows (old.held ++ a))
  long_line_follows now taken no_lf long =
      BothKnown-weaker was is (λ a b. old.held ++ a ≡ now ++ b) (λ a _. LongLineFollows (old.held ++ a)) (λ a b same.
      let front : take (most_line_bytes + 1) now ≡ take (most_line_bytes + 1) (now ++ b) = sym (take-append-le (most_line_bytes + 1) now b (omega arith)) in
      subst LongLineFollows (sym same) (LongLineFollows-from (now ++ b) (subst HasNoLf front no_lf) (omega (arith, length-append now b)))) taken

-- the last line, without LF, at the end of the source
pub gives_last : (was is : Option (List ℕ)) (old new : Reading) (now : List ℕ) (n : ℕ) → MovesBytes old.held now was is → IsShort now → n ≡ length now → 0 < n → IsAtEnd is
    → new.line ≡ record { bytes = take n now; whole = false } → new.held ≡ drop (n + 0) now → BothKnown was is (GivesLine old new)
gives_last None is old new now n taken short all some end line held = tt
gives_last (Some was) None old new now n taken short all some end line held = taken
gives_last (Some was) (Some is) old new [] n taken short all some end line held = absurd (omega (arith, ap length taken))
gives_last (Some was) (Some is) old new (b ∷ bs) n taken short all some end line held =
    let text : List ℕ = b ∷ bs in
    let to_come : old.held ++ was ≡ text = taken ∙ ap (λ t. text ++ t) end ∙ append-nil text in
    let last : new.line ≡ record { bytes = text; whole = false } = line ∙ ap (λ t. record { bytes = t; whole = false }) (take_all n text (omega arith)) in
    let rest : new.held ++ is ≡ [] = ap (λ t. t ++ is) (held ∙ drop_all (n + 0) text (omega arith)) ∙ end in
    record {
      lines = ap lines_of to_come ∙ lines_of-last b bs short.no_lf ∙ ap (λ l. l ∷ []) (sym last) ∙ ap (λ t. new.line ∷ lines_of t) (sym rest);
      bytes = to_come ∙ sym (append-nil text) ∙ sym (append-nil (text ++ [])) ∙ ap (λ l. line_text l ++ []) (sym last) ∙ ap (λ t. line_text new.line ++ t) (sym rest);
    }

-- after a line that no LF ended nothing is to come
pub nothing_behind : (old new : Reading) (was is : List ℕ) → GivesLine old new was is → new.line.whole ≡ false → new.held ++ is ≡ []
nothing_behind old new was is given unfinished = lines_of-unfinished (old.held ++ was) new.line (new.held ++ is) given.lines unfinished

-- at the end nothing was to come and nothing is, where a line without LF had nothing after it
pub nothing_left : (old new : Reading) (was is : List ℕ) → GivesEnd old new was is → (old.line.whole ≡ false → old.held ++ was ≡ []) → (old.held ++ was ≡ []) × (new.held ++ is ≡ [])
nothing_left old new was is ends behind =
    elim (cases_Bool old.line.whole) [
      | inl whole ↦ (ends.taken ∙ ends.ended whole, ends.ended whole)
      | inr unfinished ↦ (behind unfinished, sym ends.taken ∙ behind unfinished)
    ]
