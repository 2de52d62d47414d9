-- What a trial leaves on its sink, by how it ended.
use Rattle.std.specs.Prelude.{◌≡◌, ℕ, List, Option}
use Rattle.std.specs.Io.KnownBytes.{Appends}
use Rattle.job.specs.meaning.Judging.{Verdict, verdict}
use Rattle.job_io.specs.calls.Ends.{AppendsPrefix}
use Rattle.job_io.specs.meaning.Lines.{lines_of}
use Rattle.tesseract.specs.declared.status.Status.{Status}
use Rattle.tesseract.specs.declared.status.Status.TheVariants as status
use Rattle.tesseract.specs.declared.terms.Terms.{Terms}
use Rattle.tesseract.specs.meaning.Output.{output}
use Rattle.tesseract.specs.meaning.Summary.{summary_text}

-- The summary is written; or a prefix of it, where the sink failed; or nothing.
abbrev pub WritesSummary : List ℕ → Option (List ℕ) → Option (List ℕ) → Status → Type 0
WritesSummary summary written0 written status.Ok = Appends written0 written summary
WritesSummary summary written0 written status.WriteFault = AppendsPrefix written0 written summary
WritesSummary summary written0 written why = written ≡ written0

-- It ends well with all of the summary written, or with a prefix of it where the sink failed.
abbrev pub IsSummaryWritten : List ℕ → Option (List ℕ) → Option (List ℕ) → Status → Type 0
IsSummaryWritten summary written0 written status.Ok = Appends written0 written summary
IsSummaryWritten summary written0 written status.WriteFault = AppendsPrefix written0 written summary
IsSummaryWritten summary written0 written why = ⊥

-- The status is how the output of the job ends, unless memory ran out or the sink failed.
abbrev pub EndsAs : Status → Status → Type 0
EndsAs end status.NoMemory = Unit {0}
EndsAs end status.WriteFault = Unit {0}
EndsAs end why = why ≡ end

-- What a trial leaves whose job has these bytes. The sink had written0 and has `written`, where it tells.
pub record Tries (terms : Terms) (job : List ℕ) (written0 written : Option (List ℕ)) (why : Status) : Type 0 where
  pub writes : WritesSummary (summary_text (verdict terms.lines (lines_of job))) written0 written why
  pub ends : EndsAs (output terms (verdict terms.lines (lines_of job))).end why
