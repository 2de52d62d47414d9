-- What a line of a source does to a fold.
use Rattle.std.specs.Prelude.{◌≡◌, ℕ, suc, ◌+◌, ◌≤◌, ◌⊎◌, Bool, true, false, IsTrue, List, ◌++◌}
use Rattle.std.specs.Prelude.{Option, Result, Ok, Err}
use Rattle.graph_types.specs.meaning.Piece.{PieceValue}
use Rattle.job_io.specs.declared.line_reader.LineFault.{LineFault}
use Rattle.job_io.specs.declared.line_reader.LineFault.TheVariants as line
use Rattle.job_io.specs.calls.Ends.{BothKnown}
use Rattle.job_io.specs.meaning.Lines.{Reading, lines_of, FitsLine, GivesLine, StopsInLine}
use Rattle.snapshot_fold.specs.declared.folding.FoldStop.{FoldStop}
use Rattle.snapshot_fold.specs.declared.folding.FoldStop.TheVariants as stop
use Rattle.snapshot_fold.specs.meaning.FoldState.{FoldState}
use Rattle.snapshot_fold.specs.meaning.Folding.{state_after_one_line, is_reached, outcome_at_end, fold_outcome_from}

-- the stop where the reader of lines fails
abbrev pub stop_of : LineFault → FoldStop
stop_of line.ReadFault = stop.ReadFault
stop_of (line.TooLong n) = stop.TooLong n
stop_of (line.TooMany n) = stop.TooMany n

-- this is the outcome, unless memory ran out
abbrev pub IsOutcome : Result (List PieceValue) FoldStop → Result (List PieceValue) FoldStop → Type 0
IsOutcome result outcome = (result ≡ outcome) ⊎ (result ≡ Err stop.NoMemory)

-- this is why a line stops a fold, unless memory ran out
abbrev pub IsStopOf : Result FoldState FoldStop → FoldStop → Type 0
IsStopOf led why = (led ≡ Err why) ⊎ (why ≡ stop.NoMemory)

-- The reader gave a whole line, and it leads the fold on.
pub record LeadsOn (old new : Reading) (s behind : FoldState) : Type 0 where
  pub whole : new.line.whole ≡ true
  pub fits : FitsLine new.line
  pub led : state_after_one_line old.most (suc old.number) s new.line ≡ Ok behind
  pub counted : new.number ≡ old.number + 1
  pub few : new.number ≤ new.most
  pub same_most : new.most ≡ old.most
  pub live : IsTrue new.live

-- what the lines to come lead to, where the timestamp that is named isn't done
abbrev pub LinesComeTo : Reading → FoldState → List ℕ →
    (Option ℕ → Result (List PieceValue) FoldStop) → Type 0
LinesComeTo old s to_come outcome =
    (at : Option ℕ) → is_reached at s.done ≡ false →
    fold_outcome_from old.most at old.number s (lines_of to_come) ≡ outcome at

-- What a call for the next line does: a line leads on, no whole line follows, or the fold stops.
abbrev pub TakesLine : Reading → Reading → FoldState → FoldState → Option (List ℕ) →
    Option (List ℕ) → Result Bool FoldStop → Type 0
TakesLine old new s behind was is (Ok true) =
    BothKnown was is (GivesLine old new) × LeadsOn old new s behind
TakesLine old new s behind was is (Ok false) =
    (behind ≡ s)
    × BothKnown was is (λ was is. LinesComeTo old s (old.held ++ was) (λ at. outcome_at_end at old.number s))
TakesLine old new s behind was is (Err stop.NoMemory) = Unit {0}
TakesLine old new s behind was is (Err stop.ReadFault) = BothKnown was is (StopsInLine old new)
TakesLine old new s behind was is (Err why) =
    BothKnown was is (λ was is. LinesComeTo old s (old.held ++ was) (λ at. Err why))
