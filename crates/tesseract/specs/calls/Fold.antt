-- What folding a text of records leaves on its sink, by how it ended.
use Rattle.std.specs.Prelude.{◌≡◌, ◌⊎◌, ℕ, List, Option, Some, Ok, Err}
use Rattle.std.specs.Io.KnownBytes.{Appends}
use Rattle.std.specs.List.Sorted.{IsStrictlySortedBy}
use Rattle.graph_types.specs.meaning.Piece.{PieceValue, members_of_all, piece_cmp}
use Rattle.job_io.specs.calls.Ends.{BothKnown, AppendsPrefix}
use Rattle.job_io.specs.meaning.Lines.{lines_of}
use Rattle.record_text.specs.meaning.Listing.{listing_text}
use Rattle.snapshot_fold.specs.declared.folding.FoldStop.{FoldStop}
use Rattle.snapshot_fold.specs.meaning.FoldText.{fold_text}
use Rattle.snapshot_fold.specs.meaning.Folding.{fold_outcome}
use Rattle.snapshot_fold.specs.calls.Folds.{IsUnended, stamp_folded}
use Rattle.tesseract.specs.declared.status.Status.{Status}
use Rattle.tesseract.specs.declared.status.Status.TheVariants as status
use Rattle.tesseract.specs.meaning.Status.{status_of_fold}

-- The lines come to these pieces: those that the text tells of at the timestamp that is named, or else at
-- the last one that is done.
pub record ComesToPieces (most : ℕ) (at : Option ℕ) (bytes : List ℕ) (pieces : List PieceValue) : Type 0 where
  pub ascend : IsStrictlySortedBy piece_cmp pieces
  pub pieces_are : fold_outcome most at (lines_of bytes) ≡ Ok pieces
  pub told : fold_text bytes (stamp_folded at bytes) ≡ Some pieces

-- The lines come to a stop, and this is how it is told.
pub record StopsAs (most : ℕ) (at : Option ℕ) (bytes : List ℕ) (why : Status) : Type 0 where
  pub stop : FoldStop
  pub stop_is : fold_outcome most at (lines_of bytes) ≡ Err stop
  pub why_is : why ≡ status_of_fold stop

-- a line for each piece
abbrev pub pieces_text : List PieceValue → List ℕ
pieces_text pieces = listing_text (members_of_all pieces)

-- What folding leaves, by its status: the pieces are written; or a prefix of them where the sink failed; or
-- nothing. The source had left0 and has `left`, the sink had written0 and has `written`, where they tell;
-- `at` is the timestamp that is named, if one is, and at most `most` lines are allowed.
abbrev pub Folds : ℕ → Option ℕ → Option (List ℕ) → Option (List ℕ) → Option (List ℕ) →
    Option (List ℕ) → Status → Type 0
Folds most at left0 left written0 written status.Ok =
    BothKnown left0 left (λ bytes is.
    (pieces : List PieceValue) × ComesToPieces most at bytes pieces × Appends written0 written (pieces_text pieces))
Folds most at left0 left written0 written status.WriteFault =
    BothKnown left0 left (λ bytes is.
    (pieces : List PieceValue) × ComesToPieces most at bytes pieces × AppendsPrefix written0 written (pieces_text pieces))
Folds most at left0 left written0 written status.NoMemory = written ≡ written0
Folds most at left0 left written0 written status.ReadFault =
    (written ≡ written0) × BothKnown left0 left (IsUnended most at)
Folds most at left0 left written0 written why =
    (written ≡ written0) × BothKnown left0 left (λ bytes is. StopsAs most at bytes why)

-- How a fold up to timestamp 0 ends: there is nothing to write.
abbrev pub FoldsNothing : Status → Type 0
FoldsNothing why = (why ≡ status.Ok) ⊎ ((why ≡ status.WriteFault) ⊎ (why ≡ status.NoMemory))
