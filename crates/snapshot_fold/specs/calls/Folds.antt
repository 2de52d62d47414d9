-- What folding a source gives.
use Rattle.std.specs.Prelude.{◌≡◌, ℕ, ◌<◌, List, ◌++◌, Option, None, Some, Result, Ok, Err}
use Rattle.graph_types.specs.meaning.Piece.{PieceValue}
use Rattle.job_io.specs.calls.Ends.{BothKnown}
use Rattle.job_io.specs.meaning.Lines.{lines_of, whole_lines_of}
use Rattle.snapshot_fold.specs.declared.folding.FoldStop.{FoldStop}
use Rattle.snapshot_fold.specs.declared.folding.FoldStop.TheVariants as stop
use Rattle.snapshot_fold.specs.meaning.FoldText.{fold_text}
use Rattle.snapshot_fold.specs.meaning.Folding.{fold_outcome, last_done}

-- the timestamp that was named, if one was, is above the last that is done
abbrev pub IsToCome : Option ℕ → ℕ → Type 0
IsToCome None done = Unit {0}
IsToCome (Some t) done = done < t

-- The source failed after it gave some of the text. None of the lines whose LF it gave is refused, and the
-- timestamp that was named isn't done by them.
pub record IsUnended (most : ℕ) (at : Option ℕ) (bytes is : List ℕ) : Type 0 where
  pub taken : List ℕ
  pub split : bytes ≡ taken ++ is
  pub pieces : List PieceValue
  pub none_refused : fold_outcome most None (whole_lines_of taken) ≡ Ok pieces
  pub to_come : IsToCome at (last_done (whole_lines_of taken))

-- What a fold gives, by its result: what the lines of the text come to, unless memory ran out or the
-- source failed. The source had left0 and has `left`, where it tells.
abbrev pub FoldsRecords : ℕ → Option ℕ → Option (List ℕ) → Option (List ℕ) →
    Result (List PieceValue) FoldStop → Type 0
FoldsRecords most at left0 left (Err stop.NoMemory) = Unit {0}
FoldsRecords most at left0 left (Err stop.ReadFault) = BothKnown left0 left (IsUnended most at)
FoldsRecords most at left0 left outcome =
    BothKnown left0 left (λ bytes is. fold_outcome most at (lines_of bytes) ≡ outcome)

-- the timestamp at which a text is folded: the one that is named, or the last that its whole lines say
-- is done
abbrev pub stamp_folded : Option ℕ → List ℕ → ℕ
stamp_folded None text = last_done (whole_lines_of text)
stamp_folded (Some t) text = t

-- the pieces are those that the text tells of
abbrev pub AreTold : Option ℕ → Option (List ℕ) → Option (List ℕ) → List PieceValue → Type 0
AreTold at left0 left pieces =
    BothKnown left0 left (λ bytes is. fold_text bytes (stamp_folded at bytes) ≡ Some pieces)
