-- What a run leaves: on its sink, by how it ended, and on standard error.
use Rattle.std.specs.Prelude.{◌≡◌, ◌↔◌, ℕ, ◌≤◌, ◌⊎◌, IsTrue, List, ◌++◌, length, Option, None, Some}
use Rattle.std.specs.Io.KnownBytes.{Appends}
use Rattle.std.specs.Option.{is_some}
use Rattle.graph_types.specs.meaning.Piece.{PieceValue}
use Rattle.job_io.specs.calls.Ends.{BothKnown, AppendsPrefix, HasRisen}
use Rattle.job_io.specs.meaning.Lines.{lines_of, whole_lines_of}
use Rattle.mining_model.specs.meaning.Embeddings.{Pattern, embeddings}
use Rattle.mining_model.specs.meaning.History.{snapshot}
use Rattle.snapshot_fold.specs.meaning.Accepted.{SayDone}
use Rattle.snapshot_fold.specs.meaning.FoldText.{fold_text}
use Rattle.snapshot_fold.specs.meaning.Records.{pieces_of}
use Rattle.tesseract.specs.declared.status.Status.{Status}
use Rattle.tesseract.specs.declared.status.Status.TheVariants as status
use Rattle.tesseract.specs.declared.terms.Terms.{Terms}
use Rattle.job.specs.meaning.Judging.{Verdict, verdict}
use Rattle.tesseract.specs.meaning.Output.{most_record_lines, output}
use Rattle.tesseract.specs.meaning.Status.{status_line, status_of_end}
use Rattle.command_words.specs.meaning.Words.{command_of}
use Rattle.command_words.specs.declared.command.Options.{Options}
use Rattle.tesseract.specs.meaning.Commands.{fold_command, migrate_command, rehearse_command, terms_of}
use Rattle.tesseract.specs.calls.Fold.{Folds}
use Rattle.tesseract.specs.calls.Migrate.{MigratesAs}

-- This is the text of a whole input, and this is how its job ends.
pub record IsJob (terms : Terms) (bytes text : List ℕ) (why : Status) : Type 0 where
  pub text_is : text ≡ (output terms (verdict terms.lines (lines_of bytes))).text
  pub end_is : why ≡ (output terms (verdict terms.lines (lines_of bytes))).end

-- The source failed after it gave some of the input: this is the whole text of the lines whose LF it
-- gave. None of them is refused, and none has too many records.
pub record IsPrefixOfJob (terms : Terms) (bytes is text : List ℕ) : Type 0 where
  pub taken : List ℕ
  pub split : bytes ≡ taken ++ is
  pub text_is : text ≡ (output terms (verdict terms.lines (whole_lines_of taken))).text
  pub no_stop : (verdict terms.lines (whole_lines_of taken)).stop ≡ None
  pub no_limit :
      (output terms (verdict terms.lines (whole_lines_of taken))).end
      ≡ status_of_end (verdict terms.lines (whole_lines_of taken)).close

-- The input's text is written, and the status is how its job ends.
abbrev pub WritesText : Terms → Option (List ℕ) → Option (List ℕ) → Option (List ℕ) → Option (List ℕ) →
    Status → Type 0
WritesText terms left0 left written0 written why =
    BothKnown left0 left (λ bytes is.
    (text : List ℕ) × IsJob terms bytes text why × Appends written0 written text)

-- The lines whose LF the source gave before it failed are judged, and their text is written.
abbrev pub WritesUnread : Terms → Option (List ℕ) → Option (List ℕ) → Option (List ℕ) →
    Option (List ℕ) → Type 0
WritesUnread terms left0 left written0 written =
    BothKnown left0 left (λ bytes is.
    (text : List ℕ) × IsPrefixOfJob terms bytes is text × Appends written0 written text)

-- A prefix of the input's text is written.
abbrev pub WritesPrefix : Terms → Option (List ℕ) → Option (List ℕ) → Option (List ℕ) →
    Option (List ℕ) → Type 0
WritesPrefix terms left0 left written0 written =
    BothKnown left0 left (λ bytes is.
    AppendsPrefix written0 written (output terms (verdict terms.lines (lines_of bytes))).text)

-- What mining leaves, by its status. The source had left0 and has `left`, the sink had written0 and
-- has `written`, where they tell.
abbrev pub Mines : Terms → Option (List ℕ) → Option (List ℕ) → Option (List ℕ) → Option (List ℕ) →
    Status → Type 0
Mines terms left0 left written0 written status.NoMemory =
    WritesPrefix terms left0 left written0 written
Mines terms left0 left written0 written status.WriteFault =
    WritesPrefix terms left0 left written0 written
Mines terms left0 left written0 written status.ReadFault =
    WritesUnread terms left0 left written0 written
Mines terms left0 left written0 written why = WritesText terms left0 left written0 written why

-- The pieces are the embeddings of a job's snapshot at timestamp t, each once and in their order.
pub record AreEmbeddingsAt (v : Verdict) (t : ℕ) (pieces : List PieceValue) : Type 0 where
  pub pattern : Pattern
  pub of_program : v.pattern ≡ Some pattern
  -- t is a timestamp of the job.
  pub of_job : t ≤ length v.groups
  pub exact : pieces ≡ pieces_of pattern.mode (embeddings pattern (snapshot v.groups t))

-- What bytes tell that were written for the job of an input.
pub record TellJob (terms : Terms) (input written : List ℕ) : Type 0 where
  -- Where folding them up to a timestamp from 1 on gives pieces, these are the job's embeddings there.
  pub exact : (t : ℕ) (pieces : List PieceValue) → 1 ≤ t → fold_text written t ≡ Some pieces →
      AreEmbeddingsAt (verdict terms.lines (lines_of input)) t pieces
  -- It does, where one of their whole lines says that the timestamp is done.
  pub where_done : (t : ℕ) → SayDone (whole_lines_of written) t → IsTrue (is_some (fold_text written t))

-- What was written tells the job of the whole input, however far it came.
abbrev pub WritesTold : Terms → Option (List ℕ) → Option (List ℕ) → Option (List ℕ) → Option (List ℕ) → Type 0
WritesTold terms left0 left written0 written =
    BothKnown left0 left (λ bytes is.
    (text : List ℕ) × Appends written0 written text × TellJob terms bytes text)

-- The line is told in full, or in part where the sink failed.
abbrev pub Tells : Option (List ℕ) → Option (List ℕ) → ℕ → ℕ → List ℕ → Type 0
Tells old new before now line =
    Appends old new line ⊎ (HasRisen before now × AppendsPrefix old new line)

-- a source or a sink: the bytes that are left or written, where it tells them, and how often it failed
pub record EndState : Type 0 where
  pub bytes : Option (List ℕ)
  pub faults : ℕ

-- What every call leaves that is handed the words of a command line, beside what mining writes: `input`, `out` and
-- `err` are the ends now, input0, out0 and err0 what they were.
pub record AnswersWords (words : List (List ℕ)) (input0 input out0 out err0 err : EndState) (why : Status) : Type 0 where
  -- Usage is told exactly of words that give no command.
  pub usage : (why ≡ status.Usage) ↔ (command_of words ≡ None)
  -- `fold` writes the pieces that the records tell of,
  pub folded : (options : Options) → command_of words ≡ Some (fold_command options) →
      Folds most_record_lines options.at input0.bytes input.bytes out0.bytes out.bytes why
  -- and `migrate` writes the records anew.
  pub migrated : (options : Options) → command_of words ≡ Some (migrate_command options) →
      MigratesAs most_record_lines input0.bytes input.bytes out0.bytes out.bytes why
  -- `rehearse` writes the text of the job, as `mine` does, whatever its digits choose, and this tells of its embeddings.
  pub rehearsed : (options : Options) → command_of words ≡ Some (rehearse_command options) →
      Mines (terms_of options) input0.bytes input.bytes out0.bytes out.bytes why
      × WritesTold (terms_of options) input0.bytes input.bytes out0.bytes out.bytes
  -- A fault is told only of an end that failed in this call.
  pub read_cause : why ≡ status.ReadFault → HasRisen input0.faults input.faults
  pub write_cause : why ≡ status.WriteFault → HasRisen out0.faults out.faults
  -- Standard error gets the line of the status.
  pub told : Tells err0.bytes err.bytes err0.faults err.faults (status_line why)
