-- Lines that a fold takes, what they tell, and what each part of them tells.
use Rattle.std.proofs.Common.{◌≡◌, ◌≢◌, ℕ, zero, suc, ◌<◌, ◌≤◌, ◌⊎◌, inl, inr, Bool, true, false, cond, eqb, IsTrue, List, [], ◌∷◌, ◌++◌, length, Option, None, Some, refl, sym, ap, ◌∙◌, append_assoc, arith, length-append}
use Rattle.std.specs.Prelude.{Result, Ok, Err}
use Rattle.std.specs.Option.{option_and_then, is_some}
use Rattle.std.proofs.lemmas.Bool.{ne_eqb, eq-eqb, eqb-true, eqb-false}
use Rattle.std.proofs.lemmas.Option.{option_and_then_some}
use Rattle.graph_types.specs.meaning.Piece.{PieceValue}
use Rattle.job_io.specs.meaning.Lines.{lf, Line, whole_lines_of, without_cr}
use Rattle.job_io.proofs.LinesOf.{lf_or_none, whole_lines_of-none, whole_lines_of-whole}
use Rattle.record_text.specs.declared.read.RecordLine.{RecordLine}
use Rattle.record_text.specs.declared.read.RecordLine.TheVariants.{Nothing, Head, Rem, Add, Done}
use Rattle.record_text.specs.meaning.Grammar.{record_of}
use Rattle.snapshot_fold.specs.declared.fault.FoldRefusal.{FoldRefusal}
use Rattle.snapshot_fold.specs.meaning.Accepted.{SayDone, SaysDone, state_after_lines}
use Rattle.snapshot_fold.specs.meaning.FoldState.{FoldState, empty_fold}
use Rattle.snapshot_fold.specs.meaning.FoldText.{accepted_state, fold_text, pieces_where_done, state_after_line}
use Rattle.snapshot_fold.specs.meaning.Folding.{done_after_record, last_done_from}
use Rattle.snapshot_fold.specs.meaning.Taking.{state_after_record}
use Rattle.snapshot_fold.proofs.Judging.{Moves, SaysRecord, line-closes, rises, stays}

-- ---- the whole lines of a longer text

whole_lines-within : (n : ℕ) (text more : List ℕ) → length text ≤ n → (lines : List Line) × (whole_lines_of (text ++ more) ≡ whole_lines_of text ++ lines)
whole_lines-within n [] more short = (whole_lines_of more, refl)
whole_lines-within zero (b ∷ text) more short = absurd (omega (arith, short))
whole_lines-within (suc n) (b ∷ text) more short =
    elim (lf_or_none (b ∷ text)) [
      | inl found ↦
          let first : Line = record { bytes = found.line; whole = true } in
          let rest = whole_lines-within n found.rest more (omega (arith, short, ap length found.split, length-append found.line (lf ∷ found.rest))) in (
            rest.0,
            ap (λ xs. whole_lines_of (xs ++ more)) found.split
                ∙ ap whole_lines_of (append_assoc found.line (lf ∷ found.rest) more)
                ∙ whole_lines_of-whole found.line (found.rest ++ more) found.no_lf
                ∙ ap (λ lines. first ∷ lines) rest.1
                ∙ ap (λ lines. lines ++ rest.0) (sym (ap whole_lines_of found.split ∙ whole_lines_of-whole found.line found.rest found.no_lf)),
          )
      | inr no_lf ↦ (whole_lines_of ((b ∷ text) ++ more), ap (λ lines. lines ++ whole_lines_of ((b ∷ text) ++ more)) (sym (whole_lines_of-none (b ∷ text) no_lf)))
    ]

-- a text that goes on has its whole lines, and then others
pub whole_lines_of-more : (text more : List ℕ) → (lines : List Line) × (whole_lines_of (text ++ more) ≡ whole_lines_of text ++ lines)
whole_lines_of-more text more = whole_lines-within (length text) text more (omega arith)

-- ---- one line

accepted-ok : (r : Result FoldState FoldRefusal) (next : FoldState) → accepted_state r ≡ Some next → r ≡ Ok next
accepted-ok (Ok other) next is = let same : other ≡ next = cc in ap Ok same
accepted-ok (Err why) next is = cc

line-says : (s next : FoldState) (line : Line) → state_after_line s line ≡ Some next → SaysRecord s next line
line-says s next line is =
    option_and_then_some (λ said. accepted_state (state_after_record s said)) (record_of (without_cr line.bytes)) next is
    (λ said said_is taken. record { said = said; said_is = said_is; taken_is = accepted-ok (state_after_record s said) next taken })

-- what a first line and those after it lead to
record LeadsOn (s : FoldState) (line : Line) (lines : List Line) (end : FoldState) : Type 0 where
  next : FoldState
  first : state_after_line s line ≡ Some next
  rest : state_after_lines next lines ≡ Some end

leads_on : (s end : FoldState) (line : Line) (lines : List Line) → state_after_lines s (line ∷ lines) ≡ Some end → LeadsOn s line lines end
leads_on s end line lines is =
    option_and_then_some (λ next. state_after_lines next lines) (state_after_line s line) end is
    (λ next first rest. record { next = next; first = first; rest = rest })

-- where a first line is taken, the pieces are those at its end, or are told later
abbrev told_from : ℕ → List Line → FoldState → Option (List PieceValue)
told_from t lines next = cond (eqb next.done t) (Some next.settled) (pieces_where_done next lines t)

told-cons : (s next : FoldState) (line : Line) (lines : List Line) (t : ℕ) → state_after_line s line ≡ Some next → pieces_where_done s (line ∷ lines) t ≡ told_from t lines next
told-cons s next line lines t is = ap (option_and_then (told_from t lines)) is

record Tells (s : FoldState) (line : Line) (lines : List Line) (t : ℕ) (pieces : List PieceValue) : Type 0 where
  next : FoldState
  first : state_after_line s line ≡ Some next
  rest : told_from t lines next ≡ Some pieces

tells : (s : FoldState) (line : Line) (lines : List Line) (t : ℕ) (pieces : List PieceValue) → pieces_where_done s (line ∷ lines) t ≡ Some pieces → Tells s line lines t pieces
tells s line lines t pieces is =
    option_and_then_some (told_from t lines) (state_after_line s line) pieces is
    (λ next first rest. record { next = next; first = first; rest = rest })

-- ---- a text that goes on

pub state_after_lines-front : (s end : FoldState) (lines more : List Line) → state_after_lines s (lines ++ more) ≡ Some end → (mid : FoldState) × (state_after_lines s lines ≡ Some mid)
state_after_lines-front s end [] more is = (s, refl)
state_after_lines-front s end (line ∷ lines) more is =
    let leads = leads_on s end line (lines ++ more) is in
    let rest = state_after_lines-front leads.next end lines more leads.rest in
    (rest.0, ap (option_and_then (λ next. state_after_lines next lines)) leads.first ∙ rest.1)

told-more : (s : FoldState) (lines more : List Line) (t : ℕ) (pieces : List PieceValue) → pieces_where_done s lines t ≡ Some pieces → pieces_where_done s (lines ++ more) t ≡ Some pieces
told-more s [] more t pieces is = cc
told-more s (line ∷ lines) more t pieces is =
    let told = tells s line lines t pieces is in
    let by_test : (b : Bool) → cond b (Some told.next.settled) (pieces_where_done told.next lines t) ≡ Some pieces →
    cond b (Some told.next.settled) (pieces_where_done told.next (lines ++ more) t) ≡ Some pieces =
    elim [
      | true ↦ λ here. here
      | false ↦ λ later. told-more told.next lines more t pieces later
    ] in
    told-cons s told.next line (lines ++ more) t told.first ∙ by_test (eqb told.next.done t) told.rest

pub fold_text-more : (text more : List ℕ) (t : ℕ) (pieces : List PieceValue) → fold_text text t ≡ Some pieces → fold_text (text ++ more) t ≡ Some pieces
fold_text-more text more t pieces =
    let lines = whole_lines_of-more text more in
    elim (eqb t 0) as (λ b. cond b (Some []) (pieces_where_done empty_fold (whole_lines_of text) t) ≡ Some pieces → cond b (Some []) (pieces_where_done empty_fold (whole_lines_of (text ++ more)) t) ≡ Some pieces) [
      | true ↦ λ none. none
      | false ↦ λ is. ap (λ ls. pieces_where_done empty_fold ls t) lines.1 ∙ told-more empty_fold (whole_lines_of text) lines.0 t pieces is
    ]

-- ---- the last timestamp that is done

-- no timestamp more is done, or the pieces at the last one are told
abbrev pub Settles : FoldState → List Line → FoldState → Type 0
Settles s lines end =
    ((end.done ≡ s.done) × (end.settled ≡ s.settled))
    ⊎ ((s.done < end.done) × (pieces_where_done s lines end.done ≡ Some end.settled))

module _ (s next end : FoldState) (line : Line) (lines : List Line) (first : state_after_line s line ≡ Some next) where
  here_told : (t : ℕ) (pieces : List PieceValue) → next.done ≡ t → next.settled ≡ pieces → pieces_where_done s (line ∷ lines) t ≡ Some pieces
  here_told t pieces done same =
      told-cons s next line lines t first
      ∙ ap (λ b. cond b (Some next.settled) (pieces_where_done next lines t)) (eq-eqb next.done t done)
      ∙ ap Some same

  later_told : (t : ℕ) (pieces : List PieceValue) → next.done ≢ t → pieces_where_done next lines t ≡ Some pieces → pieces_where_done s (line ∷ lines) t ≡ Some pieces
  later_told t pieces other told =
      told-cons s next line lines t first
      ∙ ap (λ b. cond b (Some next.settled) (pieces_where_done next lines t)) (ne_eqb next.done t other)
      ∙ told

  settles-cons : Moves s next → Settles next lines end → Settles s (line ∷ lines) end
  settles-cons (stays done settled) (inl last) = inl (last.0 ∙ done, last.1 ∙ settled)
  settles-cons (stays done settled) (inr later) =
      inr (omega (arith, done, later.0), later_told end.done end.settled (λ same. omega (arith, same, later.0)) later.1)
  settles-cons (rises done) (inl last) = inr (omega (arith, done, last.0), here_told end.done end.settled (sym last.0) (sym last.1))
  settles-cons (rises done) (inr later) =
      inr (omega (arith, done, later.0), later_told end.done end.settled (λ same. omega (arith, same, later.0)) later.1)

pub settles : (s end : FoldState) (lines : List Line) → state_after_lines s lines ≡ Some end → Settles s lines end
settles s end [] is = let same : s ≡ end = cc in inl (ap (λ (x : FoldState). x.done) (sym same), ap (λ (x : FoldState). x.settled) (sym same))
settles s end (line ∷ lines) is =
    let leads = leads_on s end line lines is in
    settles-cons s leads.next end line lines leads.first (line-closes s leads.next line (line-says s leads.next line leads.first)).1
    (settles leads.next end lines leads.rest)

-- it is the last that the lines say is done
pub last_done-accepted : (s end : FoldState) (lines : List Line) → state_after_lines s lines ≡ Some end → last_done_from s.done lines ≡ end.done
last_done-accepted s end [] is = let same : s ≡ end = cc in ap (λ (x : FoldState). x.done) same
last_done-accepted s end (line ∷ lines) is =
    let leads = leads_on s end line lines is in
    ap (λ t. last_done_from t lines) (line-closes s leads.next line (line-says s leads.next line leads.first)).0
    ∙ last_done-accepted leads.next end lines leads.rest

rises_to : (s end : FoldState) (lines : List Line) → Settles s lines end → s.done ≤ end.done
rises_to s end lines (inl last) = omega (arith, last.0)
rises_to s end lines (inr later) = omega (arith, later.0)

-- ---- which timestamps are told

-- what is told is done at the end
pub told-within : (s end : FoldState) (lines : List Line) (t : ℕ) (pieces : List PieceValue) → state_after_lines s lines ≡ Some end → pieces_where_done s lines t ≡ Some pieces → t ≤ end.done
told-within s end [] t pieces is told = cc
told-within s end (line ∷ lines) t pieces is told =
    let leads = leads_on s end line lines is in
    let by_test : (b : Bool) → eqb leads.next.done t ≡ b → cond b (Some leads.next.settled) (pieces_where_done leads.next lines t) ≡ Some pieces → t ≤ end.done =
    elim [
      | true ↦ λ same _.
          let above = rises_to leads.next end lines (settles leads.next end lines leads.rest) in
          let done = eqb-true leads.next.done t same in
          omega (arith, above, done)
      | false ↦ λ _ later. told-within leads.next end lines t pieces leads.rest later
    ] in
    by_test (eqb leads.next.done t) refl (sym (told-cons s leads.next line lines t leads.first) ∙ told)

-- a record after which another timestamp is the last says so
says_done : (d t : ℕ) (said : Option RecordLine) → done_after_record d said ≡ t → d ≢ t → SaysDone said t
says_done d t None is other = absurd (other is)
says_done d t (Some Nothing) is other = absurd (other is)
says_done d t (Some Head) is other = absurd (other is)
says_done d t (Some (Rem u p)) is other = absurd (other is)
says_done d t (Some (Add u p)) is other = absurd (other is)
says_done d t (Some (Done u count)) is other = (count, ap (λ v. Some (Done v count)) is)

-- a timestamp that is told is said to be done
pub told-SayDone : (s : FoldState) (lines : List Line) (t : ℕ) (pieces : List PieceValue) → s.done ≢ t → pieces_where_done s lines t ≡ Some pieces → SayDone lines t
told-SayDone s [] t pieces other told = cc
told-SayDone s (line ∷ lines) t pieces other told =
    let led = tells s line lines t pieces told in
    let closes = (line-closes s led.next line (line-says s led.next line led.first)).0 in
    let by_test : (b : Bool) → eqb led.next.done t ≡ b → cond b (Some led.next.settled) (pieces_where_done led.next lines t) ≡ Some pieces → SayDone (line ∷ lines) t =
    elim [
      | true ↦ λ same _. inl (says_done s.done t (record_of (without_cr line.bytes)) (closes ∙ eqb-true led.next.done t same) other)
      | false ↦ λ apart later. inr (told-SayDone led.next lines t pieces (eqb-false led.next.done t apart) later)
    ] in
    by_test (eqb led.next.done t) refl led.rest

-- where each line is taken, a timestamp that is said to be done is told
pub SayDone-told : (s end : FoldState) (lines : List Line) (t : ℕ) → state_after_lines s lines ≡ Some end → SayDone lines t → IsTrue (is_some (pieces_where_done s lines t))
SayDone-told s end [] t is say = absurd say
SayDone-told s end (line ∷ lines) t is say =
    let leads = leads_on s end line lines is in
    let closes = (line-closes s leads.next line (line-says s leads.next line leads.first)).0 in
    let by_test : (b : Bool) → eqb leads.next.done t ≡ b → IsTrue (is_some (cond b (Some leads.next.settled) (pieces_where_done leads.next lines t))) =
    elim [
      | true ↦ λ _. refl
      | false ↦ λ apart.
          elim say as (λ _. IsTrue (is_some (pieces_where_done leads.next lines t))) [
            | inl here ↦ absurd (eqb-false leads.next.done t apart (sym closes ∙ ap (done_after_record s.done) here.1))
            | inr later ↦ SayDone-told leads.next end lines t leads.rest later
          ]
    ] in
    ap is_some (told-cons s leads.next line lines t leads.first) ∙ by_test (eqb leads.next.done t) refl
