-- What migrating a source leaves on its sink.
use Rattle.std.specs.Prelude.{◌≡◌, ℕ, List, ◌++◌, Option, None, Result, Ok, Err}
use Rattle.std.specs.Io.KnownBytes.{Appends}
use Rattle.graph_types.specs.meaning.Piece.{PieceValue}
use Rattle.job_io.specs.calls.Ends.{AppendsPrefix, BothKnown}
use Rattle.job_io.specs.meaning.Lines.{lines_of, whole_lines_of}
use Rattle.snapshot_fold.specs.declared.folding.FoldStop.{FoldStop}
use Rattle.snapshot_fold.specs.declared.folding.FoldStop.TheVariants as stop
use Rattle.snapshot_fold.specs.meaning.Folding.{fold_outcome}
use Rattle.record_migration.specs.declared.migrate.MigrationStop.{MigrationStop}
use Rattle.record_migration.specs.declared.migrate.MigrationStop.TheVariants.{Stopped, WriteFault}
use Rattle.record_migration.specs.meaning.Migrated.{migrated_text}

-- The whole text is written that the whole lines lead to, and no line is refused.
pub record MigratesAll (most : ℕ) (written0 written : Option (List ℕ)) (bytes : List ℕ) : Type 0 where
  pub text : Appends written0 written (migrated_text most (whole_lines_of bytes))
  pub pieces : List PieceValue
  pub none_refused : fold_outcome most None (lines_of bytes) ≡ Ok pieces

-- The whole text is written that the lines lead to before the first one that is refused, which is told.
pub record MigratesUpto (most : ℕ) (written0 written : Option (List ℕ)) (why : FoldStop) (bytes : List ℕ) : Type 0 where
  pub text : Appends written0 written (migrated_text most (whole_lines_of bytes))
  pub first_refused : fold_outcome most None (lines_of bytes) ≡ Err why

-- The source failed after it gave some of the text. The whole text is written that the lines lead to whose LF it
-- gave, of which none is refused.
pub record MigratesTaken (most : ℕ) (written0 written : Option (List ℕ)) (bytes is : List ℕ) : Type 0 where
  pub taken : List ℕ
  pub split : bytes ≡ taken ++ is
  pub text : Appends written0 written (migrated_text most (whole_lines_of taken))
  pub pieces : List PieceValue
  pub none_refused : fold_outcome most None (whole_lines_of taken) ≡ Ok pieces

-- What migrating leaves, by its result: the whole text, unless memory ran out or an end failed. The source had left0
-- and has `left`, the sink had written0 and has `written`, where they tell.
abbrev pub Migrates : {T : Type 0} → ℕ → Option (List ℕ) → Option (List ℕ) → Option (List ℕ) → Option (List ℕ) →
    Result T MigrationStop → Type 0
Migrates most left0 left written0 written (Ok v) =
    BothKnown left0 left (λ bytes is. MigratesAll most written0 written bytes)
Migrates most left0 left written0 written (Err WriteFault) = Unit {0}
Migrates most left0 left written0 written (Err (Stopped stop.NoMemory)) = Unit {0}
Migrates most left0 left written0 written (Err (Stopped stop.ReadFault)) =
    BothKnown left0 left (λ bytes is. MigratesTaken most written0 written bytes is)
Migrates most left0 left written0 written (Err (Stopped why)) =
    BothKnown left0 left (λ bytes is. MigratesUpto most written0 written why bytes)

-- however it ends, a prefix of the text is written that all whole lines lead to
abbrev pub WritesMigrated : ℕ → Option (List ℕ) → Option (List ℕ) → Option (List ℕ) → Option (List ℕ) → Type 0
WritesMigrated most left0 left written0 written =
    BothKnown left0 left (λ bytes is. AppendsPrefix written0 written (migrated_text most (whole_lines_of bytes)))
