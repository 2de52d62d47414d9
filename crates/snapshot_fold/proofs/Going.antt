-- A fold goes from line to line, and ends.
use Rattle.std.proofs.Common.{◌≡◌, ◌≢◌, ℕ, suc, ◌≤◌, inl, inr, true, false, cond, IsTrue}
use Rattle.std.proofs.Common.{List, [], ◌∷◌, ◌++◌, None, Some, Option, Result, Ok, Err}
use Rattle.std.proofs.Common.{refl, sym, ap, ◌∙◌, subst, arith, append_assoc, append-nil}
use Rattle.std.specs.Prelude.{IfOk}
use Rattle.std.proofs.lemmas.Bool.{eqb-false}
use Rattle.graph_types.specs.meaning.Piece.{PieceValue}
use Rattle.job_io.specs.calls.Ends.{BothKnown}
use Rattle.job_io.proofs.Known.{BothKnown-map, BothKnown-same, BothKnown-then}
use Rattle.job_io.specs.meaning.Lines.{lf, HasNoLf, Line, Reading, lines_of, whole_lines_of, line_text}
use Rattle.job_io.specs.meaning.Lines.{GivesLine, StopsInLine}
use Rattle.job_io.proofs.LinesOf.{whole_lines_of-whole, whole_lines_of-none}
use Rattle.snapshot_fold.specs.declared.folding.FoldStop.{FoldStop}
use Rattle.snapshot_fold.specs.declared.folding.FoldStop.TheVariants as stop
use Rattle.snapshot_fold.specs.meaning.FoldState.{FoldState, empty_fold}
use Rattle.snapshot_fold.specs.meaning.Folding.{state_after_one_line, is_reached, outcome_at_end, outcome_after, fold_outcome_from, fold_outcome}
use Rattle.snapshot_fold.specs.meaning.Folding.{last_done_from, last_done}
use Rattle.snapshot_fold.specs.calls.Folds.{IsToCome, IsUnended, FoldsRecords, AreTold}
use Rattle.snapshot_fold.specs.calls.Standing.{IsNotPast, Reached, AtLine, Stands}
use Rattle.snapshot_fold.specs.calls.Reading.{IsOutcome, LeadsOn, LinesComeTo, TakesLine}
use Rattle.snapshot_fold.proofs.Judging.{Moves, stays, rises, one_line-says, line-closes}
use Rattle.snapshot_fold.proofs.Told.{folded_from-reached, folded_from-cons, rest_from, told}

not_past-start : (at : Option ℕ) → IsNotPast at 0
not_past-start None = tt
not_past-start (Some t) = omega arith

Reached-start : (most : ℕ) (at : Option ℕ) → Reached most at [] 0 empty_fold
Reached-start most at =
    record { folds = λ lines. refl; folds_all = λ lines. refl; last = λ lines. refl; not_past = not_past-start at }

pub Stands-start : (most : ℕ) (at : Option ℕ) (left : Option (List ℕ)) (reader : Reading) (s : FoldState) → s ≡ empty_fold →
    reader.line ≡ record { bytes = []; whole = true } → reader.number ≡ 0 → reader.most ≡ most → reader.live ≡ true → reader.held ≡ [] →
    Stands most at left left reader s
Stands-start most at left reader s begun line none most_is live empty =
    let reached : Reached reader.most at [] reader.number s =
    subst (λ n. Reached reader.most at [] n s) (sym none) (subst (Reached reader.most at [] 0) (sym begun) (Reached-start reader.most at)) in
    record {
      known = BothKnown-same _ left (λ bytes. record {
        gone = [];
        lines = ap (λ held. lines_of (held ++ bytes)) (sym empty);
        reached = reached;
        given = [];
        split = ap (λ held. held ++ bytes) (sym empty);
        whole_lines = λ more. refl;
      });
      whole = ap (λ (l : Line). l.whole) line;
      live = live;
      most_is = most_is;
      few = omega (arith, none);
    }

-- ---- a line leads on

not_past-next : (at : Option ℕ) (s behind : FoldState) → is_reached at s.done ≡ false → IsNotPast at s.done → Moves s behind →
    IsNotPast at behind.done
not_past-next None s behind later so moves = tt
not_past-next (Some t) s behind later so (stays done settled) = omega (arith, so, done)
not_past-next (Some t) s behind later so (rises done) =
    let other : s.done ≢ t = eqb-false s.done t later in omega (arith, so, done, other)

module _ (most : ℕ) (at : Option ℕ) (gone : List Line) (n : ℕ) (s behind : FoldState) (line : Line)
    (reached : Reached most at gone n s) (later : is_reached at s.done ≡ false)
    (led : state_after_one_line most (suc n) s line ≡ Ok behind) (whole : line.whole ≡ true) where
  regrouped : (lines : List Line) → (gone ++ line ∷ []) ++ lines ≡ gone ++ line ∷ lines
  regrouped lines = append_assoc gone (line ∷ []) lines

  steps : (a : Option ℕ) → is_reached a s.done ≡ false → (lines : List Line) →
      fold_outcome_from most a n s (line ∷ lines) ≡ fold_outcome_from most a (suc n) behind lines
  steps a later lines =
      folded_from-cons most a n s line lines later
      ∙ ap (λ r. outcome_after r (rest_from most a n line lines)) led
      ∙ ap (λ w. fold_outcome_from most a (cond w (suc n) n) behind lines) whole

  Reached-next : Reached most at (gone ++ line ∷ []) (suc n) behind
  Reached-next =
      let closes = line-closes s behind line (one_line-says most (suc n) s line behind whole led) in
      record {
        folds = λ lines. ap (fold_outcome most at) (regrouped lines) ∙ reached.folds (line ∷ lines) ∙ steps at later lines;
        folds_all = λ lines. ap (fold_outcome most None) (regrouped lines) ∙ reached.folds_all (line ∷ lines) ∙ steps None refl lines;
        last = λ lines.
            ap last_done (regrouped lines) ∙ reached.last (line ∷ lines) ∙ ap (λ t. last_done_from t lines) closes.0;
        not_past = not_past-next at s behind later reached.not_past closes.1;
      }

-- a whole line is the first of the whole lines
pub first_whole : (line : Line) (more : List ℕ) → line.whole ≡ true → HasNoLf line.bytes →
    whole_lines_of (line_text line ++ more) ≡ line ∷ whole_lines_of more
first_whole line more whole no_lf =
    let line_is : record { bytes = line.bytes; whole = true } ≡ line =
    ap (λ w. let other : Line = record { bytes = line.bytes; whole = w } in other) (sym whole) in
    ap (λ w. whole_lines_of ((line.bytes ++ cond w (lf ∷ []) []) ++ more)) whole
    ∙ ap whole_lines_of (append_assoc line.bytes (lf ∷ []) more)
    ∙ whole_lines_of-whole line.bytes more no_lf
    ∙ ap (λ l. l ∷ whole_lines_of more) line_is

at_next : (at : Option ℕ) (bytes was is : List ℕ) (old new : Reading) (s behind : FoldState) → is_reached at s.done ≡ false →
    AtLine at bytes was old s → GivesLine old new was is → LeadsOn old new s behind → AtLine at bytes is new behind
at_next at bytes was is old new s behind later stood gives leads =
    let reached = Reached-next old.most at stood.gone old.number s behind new.line stood.reached later leads.led leads.whole in
    let counted : suc old.number ≡ new.number = omega (arith, leads.counted) in
    record {
      gone = stood.gone ++ new.line ∷ [];
      lines =
          stood.lines ∙ ap (λ lines. stood.gone ++ lines) gives.lines
          ∙ sym (append_assoc stood.gone (new.line ∷ []) (lines_of (new.held ++ is)));
      reached =
          subst (λ n. Reached new.most at (stood.gone ++ new.line ∷ []) n behind) counted
          (subst (λ m. Reached m at (stood.gone ++ new.line ∷ []) (suc old.number) behind) (sym leads.same_most) reached);
      given = stood.given ++ line_text new.line;
      split =
          stood.split ∙ ap (λ xs. stood.given ++ xs) gives.bytes
          ∙ sym (append_assoc stood.given (line_text new.line) (new.held ++ is));
      whole_lines = λ more.
          ap whole_lines_of (append_assoc stood.given (line_text new.line) more)
          ∙ stood.whole_lines (line_text new.line ++ more)
          ∙ ap (λ lines. stood.gone ++ lines) (first_whole new.line more leads.whole leads.fits.no_lf)
          ∙ sym (append_assoc stood.gone (new.line ∷ []) (whole_lines_of more));
    }

pub Stands-next : (most : ℕ) (at : Option ℕ) (left0 left left' : Option (List ℕ)) (old new : Reading) (s behind : FoldState) →
    is_reached at s.done ≡ false → Stands most at left0 left old s → BothKnown left left' (GivesLine old new) → LeadsOn old new s behind →
    Stands most at left0 left' new behind
Stands-next most at left0 left left' old new s behind later stands gives leads = record {
  known = BothKnown-then _ _ _ left0 left left' stands.known gives
      (λ bytes was is stood given. at_next at bytes was is old new s behind later stood given leads);
  whole = leads.whole;
  live = leads.live;
  most_is = leads.same_most ∙ stands.most_is;
  few = omega (arith, leads.few, leads.same_most, stands.most_is);
}

-- ---- a fold ends

-- what the lines to come lead to is what the whole text does
all_lines : (at : Option ℕ) (bytes was : List ℕ) (reader : Reading) (s : FoldState) → AtLine at bytes was reader s →
    fold_outcome reader.most at (lines_of bytes) ≡ fold_outcome_from reader.most at reader.number s (lines_of (reader.held ++ was))
all_lines at bytes was reader s stood =
    ap (fold_outcome reader.most at) stood.lines ∙ stood.reached.folds (lines_of (reader.held ++ was))

folds-unless_starved : (most : ℕ) (at : Option ℕ) (left0 left : Option (List ℕ)) (result outcome : Result (List PieceValue) FoldStop) →
    IsOutcome result outcome → FoldsRecords most at left0 left outcome → FoldsRecords most at left0 left result
folds-unless_starved most at left0 left result outcome (inl same) folds = subst (FoldsRecords most at left0 left) (sym same) folds
folds-unless_starved most at left0 left result outcome (inr starved) folds = subst (FoldsRecords most at left0 left) (sym starved) tt

-- the timestamp that is named is done
pub Stands-reached : (most : ℕ) (at : Option ℕ) (left0 left : Option (List ℕ)) (reader : Reading) (s : FoldState) (result : Result (List PieceValue) FoldStop) →
    Stands most at left0 left reader s → is_reached at s.done ≡ true → IsOutcome result (Ok s.settled) → FoldsRecords most at left0 left result
Stands-reached most at left0 left reader s result stands reached gives =
    folds-unless_starved most at left0 left result (Ok s.settled) gives
    (subst (λ m. FoldsRecords m at left0 left (Ok s.settled)) stands.most_is
    (BothKnown-map _ _ left0 left stands.known (λ bytes is stood.
    all_lines at bytes is reader s stood ∙ folded_from-reached reader.most at reader.number s (lines_of (reader.held ++ is)) reached)))

folds-end : (most : ℕ) (at : Option ℕ) (left0 left : Option (List ℕ)) (a : Option ℕ) (n : ℕ) (s : FoldState) →
    BothKnown left0 left (λ bytes is. fold_outcome most at (lines_of bytes) ≡ outcome_at_end a n s) → FoldsRecords most at left0 left (outcome_at_end a n s)
folds-end most at left0 left None n s known = known
folds-end most at left0 left (Some t) n s known = known

module _ (most : ℕ) (at : Option ℕ) (left0 left left' : Option (List ℕ)) (old new : Reading) (s behind : FoldState)
    (later : is_reached at s.done ≡ false) (stands : Stands most at left0 left old s) where
  -- the lines to come lead to an outcome
  outcome_is : (outcome : Option ℕ → Result (List PieceValue) FoldStop) →
      BothKnown left left' (λ was is. LinesComeTo old s (old.held ++ was) outcome) →
      BothKnown left0 left' (λ bytes is. fold_outcome old.most at (lines_of bytes) ≡ outcome at)
  outcome_is outcome comes =
      BothKnown-then _ _ _ left0 left left' stands.known comes
      (λ bytes was is stood come. all_lines at bytes was old s stood ∙ come at later)

  -- no whole line follows
  pub Stands-ends : (result : Result (List PieceValue) FoldStop) → TakesLine old new s behind left left' (Ok false) →
      IsOutcome result (outcome_at_end at old.number behind) → FoldsRecords most at left0 left' result
  Stands-ends result ends gives =
      folds-unless_starved most at left0 left' result (outcome_at_end at old.number s)
      (subst (λ s. IsOutcome result (outcome_at_end at old.number s)) ends.0 gives)
      (subst (λ m. FoldsRecords m at left0 left' (outcome_at_end at old.number s)) stands.most_is
      (folds-end old.most at left0 left' at old.number s (outcome_is (λ a. outcome_at_end a old.number s) ends.1)))

  to_come : (a : Option ℕ) → is_reached a s.done ≡ false → IsNotPast a s.done → IsToCome a s.done
  to_come None later so = tt
  to_come (Some t) later so = let other : s.done ≢ t = eqb-false s.done t later in omega (arith, so, other)

  -- the source failed
  unended : (bytes was is : List ℕ) → AtLine at bytes was old s → StopsInLine old new was is → IsUnended old.most at bytes is
  unended bytes was is stood stops =
      let lines : whole_lines_of (stood.given ++ new.held) ≡ stood.gone =
      stood.whole_lines new.held ∙ ap (λ lines. stood.gone ++ lines) (whole_lines_of-none new.held stops.no_line)
      ∙ append-nil stood.gone in
      let all : stood.gone ≡ stood.gone ++ [] = sym (append-nil stood.gone) in
      record {
        taken = stood.given ++ new.held;
        split =
            stood.split ∙ ap (λ xs. stood.given ++ xs) stops.taken ∙ sym (append_assoc stood.given new.held is);
        pieces = s.settled;
        none_refused = ap (fold_outcome old.most None) (lines ∙ all) ∙ stood.reached.folds_all [];
        to_come =
            subst (IsToCome at) (sym (ap last_done (lines ∙ all) ∙ stood.reached.last []))
            (to_come at later stood.reached.not_past);
      }

  stopped : (why : FoldStop) → BothKnown left left' (λ was is. LinesComeTo old s (old.held ++ was) (λ a. Err why)) →
      BothKnown left0 left' (λ bytes is. fold_outcome old.most at (lines_of bytes) ≡ Err why)
  stopped why comes = outcome_is (λ a. Err why) comes

  stops_by : (why : FoldStop) → TakesLine old new s behind left left' (Err why) → FoldsRecords old.most at left0 left' (Err why)
  stops_by stop.NoMemory takes = tt
  stops_by stop.ReadFault takes =
      BothKnown-then _ _ _ left0 left left' stands.known takes unended
  stops_by (stop.BadLine n) takes = stopped (stop.BadLine n) takes
  stops_by (stop.Refused n refusal) takes = stopped (stop.Refused n refusal) takes
  stops_by (stop.NotDone n) takes = stopped (stop.NotDone n) takes
  stops_by (stop.TooLong n) takes = stopped (stop.TooLong n) takes
  stops_by (stop.TooMany n) takes = stopped (stop.TooMany n) takes

  -- the next line stops the fold
  pub Stands-stops : (why : FoldStop) → TakesLine old new s behind left left' (Err why) → FoldsRecords most at left0 left' (Err why)
  Stands-stops why takes = subst (λ m. FoldsRecords m at left0 left' (Err why)) stands.most_is (stops_by why takes)

-- the pieces of a fold are those that the text tells of
pub Folds-told : (most : ℕ) (at : Option ℕ) (left0 left : Option (List ℕ)) (result : Result (List PieceValue) FoldStop) →
    FoldsRecords most at left0 left result → IfOk result (AreTold at left0 left)
Folds-told most at left0 left (Ok pieces) folds =
    BothKnown-map _ _ left0 left folds (λ bytes is so. told most at bytes pieces so)
Folds-told most at left0 left (Err why) folds = tt
