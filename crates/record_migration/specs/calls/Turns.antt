-- What a migration has come to between two lines, and what the next one leads to.
use Rattle.std.specs.Prelude.{◌≡◌, ◌≢◌, ℕ, List, [], ◌++◌, Option, None, Some, Result, Ok, Err}
use Rattle.graph_types.specs.meaning.Piece.{PieceValue}
use Rattle.job_io.specs.calls.Ends.{BothKnown, PassesOn}
use Rattle.job_io.specs.declared.ends.WriteFault.{WriteFault}
use Rattle.job_io.specs.meaning.Lines.{Line, Reading, lines_of, whole_lines_of}
use Rattle.record_text.specs.declared.read.RecordLine.{RecordLine}
use Rattle.snapshot_fold.specs.declared.folding.FoldStop.{FoldStop}
use Rattle.snapshot_fold.specs.declared.folding.FoldStop.TheVariants as stop
use Rattle.snapshot_fold.specs.calls.Reading.{IsStopOf}
use Rattle.snapshot_fold.specs.calls.Standing.{Stands}
use Rattle.snapshot_fold.specs.meaning.FoldState.{FoldState}
use Rattle.snapshot_fold.specs.meaning.Folding.{fold_outcome, state_after_content}
use Rattle.snapshot_fold.specs.meaning.Taking.{state_after_record}
use Rattle.record_migration.specs.calls.Migrates.{WritesMigrated}
use Rattle.record_migration.specs.declared.migrate.Turn.{Turn}
use Rattle.record_migration.specs.declared.migrate.Turn.TheVariants.{More, End}
use Rattle.record_migration.specs.meaning.Migrated.{added_text, migrated_from, migrated_text, unless_refused}

-- Of the text `bytes` whole lines were read, which lead to a fold and to `text`, and `is` is left in the source.
pub record AtBlock (most : ℕ) (bytes is text : List ℕ) (reader : Reading) (s : FoldState) : Type 0 where
  pub gone : List Line
  pub given : List ℕ
  pub split : bytes ≡ given ++ (reader.held ++ is)
  pub whole_lines : (more : List ℕ) → whole_lines_of (given ++ more) ≡ gone ++ whole_lines_of more
  pub told : (lines : List Line) → migrated_text most (gone ++ lines) ≡ text ++ migrated_from most reader.number s lines

-- Between two lines all is passed on that the lines so far lead to.
pub record IsMigrating (most : ℕ) (left0 left written0 written : Option (List ℕ)) (page : List ℕ) (reader : Reading) (s : FoldState) :
    Type 0 where
  pub stands : Stands most None left0 left reader s
  pub text : List ℕ
  pub passed : PassesOn written0 [] written page text
  pub known : BothKnown left0 left (λ bytes is. AtBlock most bytes is text reader s)

-- The text is that of the whole lines taken, of which none is refused.
pub record IsOfTaken (most : ℕ) (text bytes is : List ℕ) : Type 0 where
  pub taken : List ℕ
  pub split : bytes ≡ taken ++ is
  pub text_is : migrated_text most (whole_lines_of taken) ≡ text
  pub pieces : List PieceValue
  pub none_refused : fold_outcome most None (whole_lines_of taken) ≡ Ok pieces

-- The text is that of all whole lines, of which none is refused.
pub record IsOfAll (most : ℕ) (text bytes : List ℕ) : Type 0 where
  pub text_is : migrated_text most (whole_lines_of bytes) ≡ text
  pub pieces : List PieceValue
  pub none_refused : fold_outcome most None (lines_of bytes) ≡ Ok pieces

-- The text is that of the lines before the first one that is refused, and this is why.
pub record IsOfAccepted (most : ℕ) (text : List ℕ) (why : FoldStop) (bytes : List ℕ) : Type 0 where
  pub text_is : migrated_text most (whole_lines_of bytes) ≡ text
  pub first_refused : fold_outcome most None (lines_of bytes) ≡ Err why

-- The text that the lines lead to begins with this one.
pub record BeginsText (most : ℕ) (text bytes : List ℕ) : Type 0 where
  pub more : List ℕ
  pub text_is : migrated_text most (whole_lines_of bytes) ≡ text ++ more

-- why the lines end, and the text that they lead to
abbrev pub LeadsTo : ℕ → Option (List ℕ) → Option (List ℕ) → List ℕ → Option FoldStop → Type 0
LeadsTo most left0 left text None = BothKnown left0 left (λ bytes is. IsOfAll most text bytes)
LeadsTo most left0 left text (Some stop.NoMemory) = BothKnown left0 left (λ bytes is. BeginsText most text bytes)
LeadsTo most left0 left text (Some stop.ReadFault) = BothKnown left0 left (IsOfTaken most text)
LeadsTo most left0 left text (Some why) = BothKnown left0 left (λ bytes is. IsOfAccepted most text why bytes)

-- All is passed on that the lines lead to.
pub record HasMigrated (most : ℕ) (left0 left written0 written : Option (List ℕ)) (page : List ℕ) (end : Option FoldStop) : Type 0 where
  pub text : List ℕ
  pub passed : PassesOn written0 [] written page text
  pub leads : LeadsTo most left0 left text end

-- What all lines lead to: the text, or a prefix of it where the sink failed.
abbrev pub MigratesLines : ℕ → Option (List ℕ) → Option (List ℕ) → Option (List ℕ) → Option (List ℕ) → List ℕ →
    Result (Option FoldStop) WriteFault → Type 0
MigratesLines most left0 left written0 written page (Ok end) = HasMigrated most left0 left written0 written page end
MigratesLines most left0 left written0 written page (Err fault) = WritesMigrated most left0 left written0 written

-- What the next line leads to.
abbrev pub Turns : ℕ → Option (List ℕ) → Option (List ℕ) → Option (List ℕ) → Option (List ℕ) → List ℕ → Reading → FoldState →
    Result Turn WriteFault → Type 0
Turns most left0 left written0 written page reader s (Ok More) = IsMigrating most left0 left written0 written page reader s
Turns most left0 left written0 written page reader s (Ok (End end)) = HasMigrated most left0 left written0 written page end
Turns most left0 left written0 written page reader s (Err fault) = WritesMigrated most left0 left written0 written

-- what a record adds
abbrev pub closing_text : FoldState → RecordLine → List ℕ
closing_text s said = unless_refused (state_after_record s said) (λ behind. added_text s (Some said))

-- what line n adds, by what it says
abbrev pub line_adds : ℕ → FoldState → Option RecordLine → List ℕ
line_adds n s said = unless_refused (state_after_content n s said) (λ behind. added_text s said)

-- where line n leads, by what it says
abbrev pub TakesSaid : ℕ → FoldState → FoldState → Option RecordLine → Turn → Type 0
TakesSaid n s behind said More = state_after_content n s said ≡ Ok behind
TakesSaid n s behind said (End None) = ⊥
TakesSaid n s behind said (End (Some why)) = IsStopOf (state_after_content n s said) why × (why ≢ stop.ReadFault)
