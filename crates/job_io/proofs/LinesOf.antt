-- The lines of a text, one by one from its start.
use Rattle.std.proofs.Common.{◌≡◌, ◌≢◌, ℕ, ◌<◌, Bool, true, false, cond, eqb, List, [], ◌∷◌, ◌++◌, length, get_or, All, ◌⊎◌, inl, inr, refl, sym, ◌∙◌, ap, arith, append_assoc}
use Rattle.std.specs.List.{slice_split, filter, flat_map}
use Rattle.std.proofs.lemmas.List.Splits.{slice_split_none, slice_split_at, length-slice_split}
use Rattle.std.proofs.lemmas.List.Elements.{All-nil, All-cons, All-head, All-tail}
use Rattle.std.proofs.lemmas.Bool.{ne_eqb, cases_eq, true≢false}
use Rattle.job_io.specs.meaning.Lines.{lf, cr, is_lf, Line, lines_of, lines_of_parts, whole_lines_of, line_text, without_cr, HasNoLf}

-- what a line without LF tells the test for one
NoneIsLf-from : (text : List ℕ) → HasNoLf text → All (λ b. is_lf b ≡ false) text
NoneIsLf-from text no_lf k d within = ne_eqb (get_or text k d) lf (no_lf k d within)

-- the parts after a first one are lines of their own
lines_of_parts-more : (part : List ℕ) (parts : List (List ℕ)) → 0 < length parts → lines_of_parts (part ∷ parts) ≡ record { bytes = part; whole = true } ∷ lines_of_parts parts
lines_of_parts-more part [] some = absurd (omega arith)
lines_of_parts-more [] (next ∷ parts) some = refl
lines_of_parts-more (b ∷ bs) (next ∷ parts) some = refl

pub lines_of-nil : lines_of [] ≡ []
lines_of-nil = refl

-- a line that an LF ends stands before the lines of the rest
pub lines_of-whole : (line rest : List ℕ) → HasNoLf line → lines_of (line ++ lf ∷ rest) ≡ record { bytes = line; whole = true } ∷ lines_of rest
lines_of-whole line rest no_lf =
    ap lines_of_parts (slice_split_at is_lf line lf rest (NoneIsLf-from line no_lf) refl)
    ∙ lines_of_parts-more line (slice_split is_lf rest) (omega (arith, length-slice_split is_lf rest))

-- a text without LF is one line that no LF ended
pub lines_of-last : (b : ℕ) (bs : List ℕ) → HasNoLf (b ∷ bs) → lines_of (b ∷ bs) ≡ record { bytes = b ∷ bs; whole = false } ∷ []
lines_of-last b bs no_lf = ap lines_of_parts (slice_split_none is_lf (b ∷ bs) (NoneIsLf-from (b ∷ bs) no_lf))

pub whole_lines_of-whole : (line rest : List ℕ) → HasNoLf line → whole_lines_of (line ++ lf ∷ rest) ≡ record { bytes = line; whole = true } ∷ whole_lines_of rest
whole_lines_of-whole line rest no_lf = ap (filter (λ line. line.whole)) (lines_of-whole line rest no_lf)

-- a text without LF has no whole line
pub whole_lines_of-none : (text : List ℕ) → HasNoLf text → whole_lines_of text ≡ []
whole_lines_of-none [] no_lf = refl
whole_lines_of-none (b ∷ bs) no_lf = ap (filter (λ line. line.whole)) (lines_of-last b bs no_lf)

-- a text has no LF, or it begins with a part without LF and then one
pub record FirstLf (text : List ℕ) : Type 0 where
  pub line : List ℕ
  pub rest : List ℕ
  pub no_lf : HasNoLf line
  pub split : text ≡ line ++ lf ∷ rest

pub lf_or_none : (text : List ℕ) → FirstLf text ⊎ HasNoLf text
lf_or_none [] = inr (All-nil (λ x. x ≢ lf))
lf_or_none (b ∷ text) =
    let further : (b ≢ lf) → FirstLf text ⊎ HasNoLf text → FirstLf (b ∷ text) ⊎ HasNoLf (b ∷ text) = λ other. elim [
      | inl found ↦ inl (record { line = b ∷ found.line; rest = found.rest; no_lf = All-cons (λ x. x ≢ lf) b found.line other found.no_lf; split = ap (λ t. b ∷ t) found.split })
      | inr none ↦ inr (All-cons (λ x. x ≢ lf) b text other none)
    ] in
    elim (cases_eq b lf) [
      | inl same ↦ inl (record { line = []; rest = text; no_lf = All-nil (λ x. x ≢ lf); split = ap (λ x. x ∷ text) same })
      | inr other ↦ further other (lf_or_none text)
    ]

-- a text without LF begins with no whole line
not_whole : (text : List ℕ) (line : Line) (lines : List Line) → HasNoLf text → lines_of text ≡ line ∷ lines → line.whole ≡ true → ⊥
not_whole [] line lines none first whole = cc
not_whole (b ∷ bs) line lines none first whole =
    let only : record { bytes = b ∷ bs; whole = false } ∷ [] ≡ line ∷ lines = sym (lines_of-last b bs none) ∙ first in
    let same : line ≡ record { bytes = b ∷ bs; whole = false } = cc in
    true≢false (sym whole ∙ ap (λ (l : Line). l.whole) same)

-- where the first line is whole, the text is that line's, and then the text of the other lines
pub lines_of-first : (text : List ℕ) (line : Line) (lines : List Line) → lines_of text ≡ line ∷ lines → line.whole ≡ true
    → (rest : List ℕ) × (text ≡ line_text line ++ rest) × (lines_of rest ≡ lines)
lines_of-first text line lines first whole =
    elim (lf_or_none text) [
      | inl found ↦
          let both : record { bytes = found.line; whole = true } ∷ lines_of found.rest ≡ line ∷ lines = sym (lines_of-whole found.line found.rest found.no_lf) ∙ ap lines_of (sym found.split) ∙ first in
          let same : record { bytes = found.line; whole = true } ≡ line = cc in
          let others : lines_of found.rest ≡ lines = cc in
          (found.rest, found.split ∙ sym (append_assoc found.line (lf ∷ []) found.rest) ∙ ap (λ l. line_text l ++ found.rest) same, others)
      | inr none ↦ absurd (not_whole text line lines none first whole)
    ]

-- only the empty text has no line
lines_of-empty : (text : List ℕ) → lines_of text ≡ [] → text ≡ []
lines_of-empty [] none = refl
lines_of-empty (b ∷ bs) none =
    elim (lf_or_none (b ∷ bs)) [
      | inl found ↦ let e = sym none ∙ ap lines_of found.split ∙ lines_of-whole found.line found.rest found.no_lf in cc
      | inr no_lf ↦ let e = sym none ∙ lines_of-last b bs no_lf in cc
    ]

-- where the first line is not whole, it is all of the text
pub lines_of-unfinished : (text : List ℕ) (line : Line) (rest : List ℕ) → lines_of text ≡ line ∷ lines_of rest → line.whole ≡ false → rest ≡ []
lines_of-unfinished [] line rest first unfinished = cc
lines_of-unfinished (b ∷ bs) line rest first unfinished =
    elim (lf_or_none (b ∷ bs)) [
      | inl found ↦
          let both : record { bytes = found.line; whole = true } ∷ lines_of found.rest ≡ line ∷ lines_of rest = sym (lines_of-whole found.line found.rest found.no_lf) ∙ ap lines_of (sym found.split) ∙ first in
          let same : record { bytes = found.line; whole = true } ≡ line = cc in
          absurd (true≢false (ap (λ (l : Line). l.whole) same ∙ unfinished))
      | inr no_lf ↦
          let both : record { bytes = b ∷ bs; whole = false } ∷ [] ≡ line ∷ lines_of rest = sym (lines_of-last b bs no_lf) ∙ first in
          lines_of-empty rest cc
    ]

-- a line that an LF ended
pub record IsWhole (line : Line) : Type 0 where
  pub whole : line.whole ≡ true
  pub no_lf : HasNoLf line.bytes

-- of whole lines, and after them a rest without LF, the whole lines are those
pub whole_lines_of-given : (lines : List Line) (rest : List ℕ) → All IsWhole lines → HasNoLf rest → whole_lines_of (flat_map line_text lines ++ rest) ≡ lines
whole_lines_of-given [] rest each no_lf = whole_lines_of-none rest no_lf
whole_lines_of-given (line ∷ lines) rest each no_lf =
    let first = All-head IsWhole line lines each in
    let later : List ℕ = flat_map line_text lines ++ rest in
    let is_whole : record { bytes = line.bytes; whole = true } ≡ line = ap (λ t. record { bytes = line.bytes; whole = t }) (sym first.whole) in
    let split : flat_map line_text (line ∷ lines) ++ rest ≡ line.bytes ++ lf ∷ later =
    ap (λ t. (line.bytes ++ cond t (lf ∷ []) []) ++ flat_map line_text lines ++ rest) first.whole
    ∙ append_assoc (line.bytes ++ lf ∷ []) (flat_map line_text lines) rest
    ∙ append_assoc line.bytes (lf ∷ []) later in
    ap whole_lines_of split
    ∙ whole_lines_of-whole line.bytes later first.no_lf
    ∙ ap (λ l. l ∷ whole_lines_of later) is_whole
    ∙ ap (λ ls. line ∷ ls) (whole_lines_of-given lines rest (All-tail IsWhole line lines each) no_lf)

cons-cond : (c : ℕ) (t : Bool) (xs ys : List ℕ) → c ∷ cond t xs ys ≡ cond t (c ∷ xs) (c ∷ ys)
cons-cond c true xs ys = refl
cons-cond c false xs ys = refl

-- a CR at the end of a line is dropped, and no other byte
pub without_cr-push : (line : List ℕ) (b : ℕ) → without_cr (line ++ b ∷ []) ≡ cond (eqb b cr) line (line ++ b ∷ [])
without_cr-push [] b = refl
without_cr-push (c ∷ []) b = cons-cond c (eqb b cr) [] (b ∷ [])
without_cr-push (c ∷ d ∷ line) b =
    ap (λ bytes. c ∷ bytes) (without_cr-push (d ∷ line) b) ∙ cons-cond c (eqb b cr) (d ∷ line) (d ∷ line ++ b ∷ [])

-- a text that has a byte has a line
pub some_line : (text : List ℕ) → text ≢ [] →
    (line : Line) × (others : List Line) × (lines_of text ≡ line ∷ others)
some_line [] nonempty = absurd (nonempty refl)
some_line (b ∷ bs) nonempty = elim (lf_or_none (b ∷ bs)) [
  | inl first ↦ (
    record { bytes = first.line; whole = true },
    lines_of first.rest,
    ap lines_of first.split ∙ lines_of-whole first.line first.rest first.no_lf,
  )
  | inr none ↦ (record { bytes = b ∷ bs; whole = false }, [], lines_of-last b bs none)
]
