-- What migrating a text of records leaves on its sink, by how it ended.
use Rattle.std.specs.Prelude.{◌≡◌, ℕ, List, Option}
use Rattle.job_io.specs.calls.Ends.{BothKnown}
use Rattle.record_migration.specs.calls.Migrates.{MigratesAll, MigratesTaken, MigratesUpto, WritesMigrated}
use Rattle.snapshot_fold.specs.declared.folding.FoldStop.{FoldStop}
use Rattle.tesseract.specs.declared.status.Status.{Status}
use Rattle.tesseract.specs.declared.status.Status.TheVariants as status
use Rattle.tesseract.specs.meaning.Status.{status_of_fold}

-- The first line that is refused is told, and what the lines before it lead to is written.
pub record MigratesUptoRefusal (most : ℕ) (written0 written : Option (List ℕ)) (bytes : List ℕ) (why : Status) : Type 0 where
  pub stop : FoldStop
  pub why_is : why ≡ status_of_fold stop
  pub upto : MigratesUpto most written0 written stop bytes

-- The whole text is written, unless memory ran out or an end failed.
abbrev pub MigratesWhole : ℕ → Option (List ℕ) → Option (List ℕ) → Option (List ℕ) → Option (List ℕ) → Status → Type 0
MigratesWhole most left0 left written0 written status.Ok =
    BothKnown left0 left (λ bytes is. MigratesAll most written0 written bytes)
MigratesWhole most left0 left written0 written status.NoMemory = Unit {0}
MigratesWhole most left0 left written0 written status.WriteFault = Unit {0}
MigratesWhole most left0 left written0 written status.ReadFault =
    BothKnown left0 left (λ bytes is. MigratesTaken most written0 written bytes is)
MigratesWhole most left0 left written0 written why =
    BothKnown left0 left (λ bytes is. MigratesUptoRefusal most written0 written bytes why)

-- However it ends, a prefix is written of the text that all whole lines lead to. The source had left0 and has `left`,
-- the sink had written0 and has `written`, where they tell.
pub record MigratesAs (most : ℕ) (left0 left written0 written : Option (List ℕ)) (why : Status) : Type 0 where
  pub prefix : WritesMigrated most left0 left written0 written
  pub whole : MigratesWhole most left0 left written0 written why
