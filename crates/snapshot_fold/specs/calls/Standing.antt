-- What a fold of a source has come to between two lines.
use Rattle.std.specs.Prelude.{◌≡◌, ℕ, ◌≤◌, IsTrue, List, ◌++◌, Option, None, Some}
use Rattle.job_io.specs.calls.Ends.{BothKnown}
use Rattle.job_io.specs.meaning.Lines.{Line, Reading, lines_of, whole_lines_of}
use Rattle.snapshot_fold.specs.meaning.FoldState.{FoldState}
use Rattle.snapshot_fold.specs.meaning.Folding.{fold_outcome, fold_outcome_from, last_done, last_done_from}

-- the timestamp that is named, if one is, is not below the last that is done
abbrev pub IsNotPast : Option ℕ → ℕ → Type 0
IsNotPast None done = Unit {0}
IsNotPast (Some t) done = done ≤ t

-- These whole lines lead to a fold: whatever lines follow, all come to what those after the fold do.
pub record Reached (most : ℕ) (at : Option ℕ) (gone : List Line) (n : ℕ) (s : FoldState) : Type 0 where
  pub folds : (lines : List Line) → fold_outcome most at (gone ++ lines) ≡ fold_outcome_from most at n s lines
  pub folds_all : (lines : List Line) → fold_outcome most None (gone ++ lines) ≡ fold_outcome_from most None n s lines
  pub last : (lines : List Line) → last_done (gone ++ lines) ≡ last_done_from s.done lines
  pub not_past : IsNotPast at s.done

-- Of the text `bytes` whole lines were read that lead to a fold, and `is` is left in the source.
pub record AtLine (at : Option ℕ) (bytes is : List ℕ) (reader : Reading) (s : FoldState) : Type 0 where
  pub gone : List Line
  pub lines : lines_of bytes ≡ gone ++ lines_of (reader.held ++ is)
  pub reached : Reached reader.most at gone reader.number s
  pub given : List ℕ
  pub split : bytes ≡ given ++ (reader.held ++ is)
  pub whole_lines : (more : List ℕ) → whole_lines_of (given ++ more) ≡ gone ++ whole_lines_of more

-- What a fold has come to between two lines, since its source had left0.
pub record Stands (most : ℕ) (at : Option ℕ) (left0 left : Option (List ℕ)) (reader : Reading) (s : FoldState) : Type 0 where
  pub known : BothKnown left0 left (λ bytes is. AtLine at bytes is reader s)
  pub whole : IsTrue reader.line.whole
  pub live : IsTrue reader.live
  pub most_is : reader.most ≡ most
  pub few : reader.number ≤ most
