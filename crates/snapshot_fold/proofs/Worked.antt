-- A text of records, and what it tells of.
use Rattle.std.proofs.Common.{◌≡◌, ℕ, List, [], ◌∷◌, None, Some, Ok, Err, refl}
use Rattle.std.specs.Prelude.{codes}
use Rattle.graph_types.specs.declared.ids.Mode.TheVariants as mode
use Rattle.graph_types.specs.declared.member.Member.TheVariants as member
use Rattle.graph_types.specs.meaning.Piece.{PieceValue}
use Rattle.job_io.specs.meaning.Lines.{lines_of}
use Rattle.snapshot_fold.specs.declared.folding.FoldStop.TheVariants as stop
use Rattle.snapshot_fold.specs.meaning.FoldText.{fold_text}
use Rattle.snapshot_fold.specs.meaning.Folding.{fold_outcome}

triangle : PieceValue
triangle = record { mode = mode.Vertex; members = member.Vertex 1 ∷ member.Vertex 2 ∷ member.Vertex 3 ∷ [] }

text : List ℕ
text = codes "DONE 1\n# a comment\nNEW 2 1 2 3\nDONE 2\nREM 3 1 2 3\nDONE 3\nDONE 4"

at_first : fold_text text 1 ≡ Some []
unfolding text
at_first = refl

at_second : fold_text text 2 ≡ Some (triangle ∷ [])
unfolding text triangle
at_second = refl

at_third : fold_text text 3 ≡ Some []
unfolding text
at_third = refl

-- a line without LF is not read
at_fourth : fold_text text 4 ≡ None
unfolding text
at_fourth = refl

folded_at_second : fold_outcome 10 (Some 2) (lines_of text) ≡ Ok (triangle ∷ [])
unfolding text triangle
folded_at_second = refl

-- the last line is torn, and the one before says that 3 is done
folded_at_end : fold_outcome 10 None (lines_of text) ≡ Ok []
unfolding text
folded_at_end = refl

folded_at_fourth : fold_outcome 10 (Some 4) (lines_of text) ≡ Err (stop.NotDone 6)
unfolding text
folded_at_fourth = refl

-- a line too many stops a fold, unless its timestamp is done before
folded_short : fold_outcome 2 None (lines_of text) ≡ Err (stop.TooMany 3)
unfolding text
folded_short = refl

folded_before : fold_outcome 1 (Some 1) (lines_of text) ≡ Ok []
unfolding text
folded_before = refl

-- the same text in format 2 tells the same
counted : List ℕ
counted = codes "# a comment\nrecords 2\nDONE 1 0\nNEW 2 1 2 3\nDONE 2 1\nREM 3 1 2 3\nDONE 3 0\n"

counted_at_second : fold_text counted 2 ≡ Some (triangle ∷ [])
unfolding counted triangle
counted_at_second = refl

counted_at_third : fold_text counted 3 ≡ Some []
unfolding counted
counted_at_third = refl
