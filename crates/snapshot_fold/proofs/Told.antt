-- The pieces that a fold comes to are those that its text tells of.
use Rattle.std.proofs.Common.{◌≡◌, ℕ, suc, inl, inr, Bool, true, false, cond, eqb}
use Rattle.std.proofs.Common.{List, [], ◌∷◌, None, Some, Option, Result, Ok, Err}
use Rattle.std.proofs.Common.{refl, sym, ap, ◌∙◌, arith}
use Rattle.std.specs.Prelude.{filter}
use Rattle.std.specs.Option.{option_and_then}
use Rattle.std.proofs.lemmas.Bool.{cases_eq, ne_eqb, eq-eqb}
use Rattle.graph_types.specs.meaning.Piece.{PieceValue}
use Rattle.job_io.specs.meaning.Lines.{Line, lines_of, whole_lines_of}
use Rattle.snapshot_fold.specs.declared.folding.FoldStop.{FoldStop}
use Rattle.snapshot_fold.specs.declared.folding.FoldStop.TheVariants as stop
use Rattle.snapshot_fold.specs.meaning.Accepted.{state_after_lines}
use Rattle.snapshot_fold.specs.meaning.FoldState.{FoldState, empty_fold}
use Rattle.snapshot_fold.specs.meaning.FoldText.{state_after_line, pieces_where_done, fold_text}
use Rattle.snapshot_fold.specs.meaning.Folding.{state_after_one_line, is_reached, outcome_at_end, outcome_after, fold_outcome_from, fold_outcome}
use Rattle.snapshot_fold.specs.meaning.Folding.{last_done}
use Rattle.snapshot_fold.specs.calls.Folds.{stamp_folded}
use Rattle.snapshot_fold.proofs.Judging.{behind_line-is, one_line-says, one_line-torn}
use Rattle.snapshot_fold.proofs.Prefixes.{last_done-accepted, settles}

abbrev pub Outcome : Type 0
Outcome = Result (List PieceValue) FoldStop

abbrev wholes : List Line → List Line
wholes lines = filter (λ line. line.whole) lines

-- what the lines after the first one come to
abbrev pub rest_from : ℕ → Option ℕ → ℕ → Line → List Line → FoldState → Outcome
rest_from most at n line lines behind = fold_outcome_from most at (cond line.whole (suc n) n) behind lines

-- where the timestamp that is named is done, its pieces are the outcome
pub folded_from-reached : (most : ℕ) (at : Option ℕ) (n : ℕ) (s : FoldState) (lines : List Line) →
    is_reached at s.done ≡ true → fold_outcome_from most at n s lines ≡ Ok s.settled
folded_from-reached most at n s [] reached = ap (λ b. cond b (Ok s.settled) (outcome_at_end at n s)) reached
folded_from-reached most at n s (line ∷ lines) reached =
    ap (λ b. cond b (Ok s.settled) (outcome_after (state_after_one_line most (suc n) s line) (rest_from most at n line lines))) reached

-- where lines led to pieces, the first of them led on
pub record LedOn (led : Result FoldState FoldStop) (rest : FoldState → Outcome) (outcome : Outcome) : Type 0 where
  pub behind : FoldState
  pub led_is : led ≡ Ok behind
  pub rest_is : rest behind ≡ outcome

pub led_on-ok : (led : Result FoldState FoldStop) (rest : FoldState → Outcome) (pieces : List PieceValue) →
    outcome_after led rest ≡ Ok pieces → LedOn led rest (Ok pieces)
led_on-ok (Ok behind) rest pieces so = record { behind = behind; led_is = refl; rest_is = so }
led_on-ok (Err why) rest pieces so = cc

pub folded_from-cons : (most : ℕ) (at : Option ℕ) (n : ℕ) (s : FoldState) (line : Line) (lines : List Line) →
    is_reached at s.done ≡ false →
    fold_outcome_from most at n s (line ∷ lines) ≡ outcome_after (state_after_one_line most (suc n) s line) (rest_from most at n line lines)
folded_from-cons most at n s line lines later =
    ap (λ b. cond b (Ok s.settled) (outcome_after (state_after_one_line most (suc n) s line) (rest_from most at n line lines))) later

pieces_where_done-cons : (s behind : FoldState) (line : Line) (lines : List Line) (t : ℕ) → state_after_line s line ≡ Some behind →
    pieces_where_done s (line ∷ lines) t ≡ cond (eqb behind.done t) (Some behind.settled) (pieces_where_done behind lines t)
pieces_where_done-cons s behind line lines t is =
    ap (option_and_then (λ b. cond (eqb b.done t) (Some b.settled) (pieces_where_done b lines t))) is

-- ---- at a timestamp that is named

module _ (most t : ℕ) (line : Line) (lines : List Line) (pieces : List PieceValue)
    (behind_tells : (m : ℕ) (b : FoldState) → eqb b.done t ≡ false → fold_outcome_from most (Some t) m b lines ≡ Ok pieces →
    pieces_where_done b (wholes lines) t ≡ Some pieces) where
  tells_behind : (n : ℕ) (s behind : FoldState) → state_after_line s line ≡ Some behind →
      fold_outcome_from most (Some t) n behind lines ≡ Ok pieces →
      pieces_where_done s (line ∷ wholes lines) t ≡ Some pieces
  tells_behind n s behind is so =
      let by_test : (b : Bool) → eqb behind.done t ≡ b →
      cond b (Some behind.settled) (pieces_where_done behind (wholes lines) t) ≡ Some pieces =
      elim [
        | true ↦ λ done.
            let same : ◌≡◌ {A = Outcome} (Ok behind.settled) (Ok pieces) = sym (folded_from-reached most (Some t) n behind lines done) ∙ so in
            let e : behind.settled ≡ pieces = cc in ap Some e
        | false ↦ λ later. behind_tells n behind later so
      ] in
      pieces_where_done-cons s behind line (wholes lines) t is ∙ by_test (eqb behind.done t) refl

  tells_line : (n : ℕ) (s : FoldState) → eqb s.done t ≡ false → (w : Bool) → line.whole ≡ w →
      LedOn (state_after_one_line most (suc n) s line) (rest_from most (Some t) n line lines) (Ok pieces) →
      pieces_where_done s (cond w (line ∷ wholes lines) (wholes lines)) t ≡ Some pieces
  tells_line n s later true whole led =
      tells_behind (cond line.whole (suc n) n) s led.behind
      (behind_line-is s led.behind line (one_line-says most (suc n) s line led.behind whole led.led_is)) led.rest_is
  tells_line n s later false torn led =
      let same : s ≡ led.behind = one_line-torn most (suc n) s line led.behind torn led.led_is in
      behind_tells (cond line.whole (suc n) n) s later
      (ap (λ b. fold_outcome_from most (Some t) (cond line.whole (suc n) n) b lines) same ∙ led.rest_is)

told_at : (most n t : ℕ) (s : FoldState) (lines : List Line) (pieces : List PieceValue) → eqb s.done t ≡ false →
    fold_outcome_from most (Some t) n s lines ≡ Ok pieces → pieces_where_done s (wholes lines) t ≡ Some pieces
told_at most n t s [] pieces later so =
    let never : ◌≡◌ {A = Outcome} (Err (stop.NotDone n)) (Ok pieces) = ap (λ b. cond b (Ok s.settled) (Err (stop.NotDone n))) (sym later) ∙ so in cc
told_at most n t s (line ∷ lines) pieces later so =
    tells_line most t line lines pieces (λ m b. told_at most m t b lines pieces) n s later line.whole refl
    (led_on-ok _ _ pieces (sym (folded_from-cons most (Some t) n s line lines later) ∙ so))

-- ---- at the last timestamp that is done

-- The whole lines are taken, and these are the pieces after them.
record Takes (s : FoldState) (lines : List Line) (pieces : List PieceValue) : Type 0 where
  end : FoldState
  accepted : state_after_lines s lines ≡ Some end
  settled_is : end.settled ≡ pieces

module _ (most : ℕ) (line : Line) (lines : List Line) (pieces : List PieceValue)
    (takes_rest : (m : ℕ) (b : FoldState) → fold_outcome_from most None m b lines ≡ Ok pieces → Takes b (wholes lines) pieces) where
  takes_line : (n : ℕ) (s : FoldState) → (w : Bool) → line.whole ≡ w →
      LedOn (state_after_one_line most (suc n) s line) (rest_from most None n line lines) (Ok pieces) →
      Takes s (cond w (line ∷ wholes lines) (wholes lines)) pieces
  takes_line n s true whole led =
      let rest = takes_rest (cond line.whole (suc n) n) led.behind led.rest_is in
      record {
        end = rest.end;
        accepted =
            ap (option_and_then (λ b. state_after_lines b (wholes lines)))
            (behind_line-is s led.behind line (one_line-says most (suc n) s line led.behind whole led.led_is))
            ∙ rest.accepted;
        settled_is = rest.settled_is;
      }
  takes_line n s false torn led =
      let same : s ≡ led.behind = one_line-torn most (suc n) s line led.behind torn led.led_is in
      takes_rest (cond line.whole (suc n) n) s
      (ap (λ b. fold_outcome_from most None (cond line.whole (suc n) n) b lines) same ∙ led.rest_is)

takes_all : (most n : ℕ) (s : FoldState) (lines : List Line) (pieces : List PieceValue) →
    fold_outcome_from most None n s lines ≡ Ok pieces → Takes s (wholes lines) pieces
takes_all most n s [] pieces so = let e : s.settled ≡ pieces = cc in record { end = s; accepted = refl; settled_is = e }
takes_all most n s (line ∷ lines) pieces so =
    takes_line most line lines pieces (λ m b. takes_all most m b lines pieces) n s line.whole refl
    (led_on-ok _ _ pieces so)

-- ---- of a whole text

told-named : (most t : ℕ) (text : List ℕ) (pieces : List PieceValue) → fold_outcome most (Some t) (lines_of text) ≡ Ok pieces →
    fold_text text t ≡ Some pieces
told-named most t text pieces so =
    elim (cases_eq t 0) as (λ _. fold_text text t ≡ Some pieces) [
      | inl none ↦
          let same : ◌≡◌ {A = Outcome} (Ok []) (Ok pieces) =
          sym (folded_from-reached most (Some t) 0 empty_fold (lines_of text) (eq-eqb 0 t (sym none))) ∙ so in
          let e : [] ≡ pieces = cc in
          ap (fold_text text) none ∙ ap Some e
      | inr some ↦
          ap (λ b. cond b (Some []) (pieces_where_done empty_fold (whole_lines_of text) t)) (ne_eqb t 0 some)
          ∙ told_at most 0 t empty_fold (lines_of text) pieces (ne_eqb 0 t (λ e. some (sym e))) so
    ]

told-end : (most : ℕ) (text : List ℕ) (pieces : List PieceValue) → fold_outcome most None (lines_of text) ≡ Ok pieces →
    fold_text text (last_done (whole_lines_of text)) ≡ Some pieces
told-end most text pieces so =
    let lines = whole_lines_of text in
    let takes = takes_all most 0 empty_fold (lines_of text) pieces so in
    let last = last_done-accepted empty_fold takes.end lines takes.accepted in
    elim (settles empty_fold takes.end lines takes.accepted) as (λ _. fold_text text (last_done lines) ≡ Some pieces) [
      | inl none ↦ ap (fold_text text) (last ∙ none.0) ∙ ap Some (sym none.1 ∙ takes.settled_is)
      | inr some ↦
          ap (fold_text text) last
          ∙ ap (λ b. cond b (Some []) (pieces_where_done empty_fold lines takes.end.done)) (ne_eqb takes.end.done 0 (λ e. omega (arith, some.0, e)))
          ∙ some.1 ∙ ap Some takes.settled_is
    ]

pub told : (most : ℕ) (at : Option ℕ) (text : List ℕ) (pieces : List PieceValue) → fold_outcome most at (lines_of text) ≡ Ok pieces →
    fold_text text (stamp_folded at text) ≡ Some pieces
told most None text pieces so = told-end most text pieces so
told most (Some t) text pieces so = told-named most t text pieces so
