-- What a run has read and written so far, and what it has when its job ends.
use Rattle.std.specs.Prelude.{◌≡◌, ℕ, suc, ◌⊎◌, List, [], ◌∷◌, ◌++◌, IsTrue, false, Option}
use Rattle.job_io.specs.calls.Ends.{BothKnown, PassesOn}
use Rattle.job_io.specs.meaning.Lines.{Line, Reading, lines_of, whole_lines_of, GivesEnd, StopsInLine}
use Rattle.tesseract.specs.declared.status.Status.{Status}
use Rattle.tesseract.specs.declared.status.Status.TheVariants as status
use Rattle.tesseract.specs.declared.terms.Terms.{Terms}
use Rattle.job.specs.declared.fault.JobRefusal.{JobRefusal}
use Rattle.job.specs.meaning.Judging.{Stage, refused, judgement, close_at, verdict}
use Rattle.tesseract.specs.meaning.Output.{output}
use Rattle.tesseract.specs.meaning.Status.{status_of_end, status_of_refusal}
use Rattle.tesseract.specs.calls.Progress.{Progress, HasReached}
use Rattle.tesseract.specs.calls.Run.{IsJob, IsPrefixOfJob}

-- The lines so far are all that LFs ended in the bytes given: whatever follows them adds its own.
pub record WholeSoFar (bytes is : List ℕ) (gone : List Line) (reader : Reading) : Type 0 where
  pub finished : IsTrue reader.line.whole
  pub given : List ℕ
  pub split : bytes ≡ given ++ (reader.held ++ is)
  pub whole_lines : (more : List ℕ) →
      whole_lines_of (given ++ more) ≡ gone ++ whole_lines_of more

-- The last line was given, and no LF ended it.
pub record IsAfterLast (is : List ℕ) (reader : Reading) : Type 0 where
  pub unfinished : reader.line.whole ≡ false
  pub nothing : reader.held ++ is ≡ []

-- Of the input `bytes` the lines so far were read, and `is` is left in the source; their job has come so far,
-- and `text` is that of what was mined.
pub record AtLine (terms : Terms) (bytes is text : List ℕ) (reader : Reading) (p : Progress) : Type 0 where
  pub gone : List Line
  pub lines : lines_of bytes ≡ gone ++ lines_of (reader.held ++ is)
  pub reached : HasReached terms gone text p
  pub whole : WholeSoFar bytes is gone reader ⊎ IsAfterLast is reader

-- What a run has come to between two lines, since its source had left0 and its sink had written0.
pub record IsRunning (terms : Terms) (left0 left written0 written : Option (List ℕ)) (page : List ℕ)
    (reader : Reading) (p : Progress) : Type 0 where
  pub counted : p.lines ≡ reader.number
  pub text : List ℕ
  pub passed : PassesOn written0 [] written page text
  pub known : BothKnown left0 left (λ bytes is. AtLine terms bytes is text reader p)

-- The job ends where no line follows.
pub record EndsClean (old new : Reading) (was is : List ℕ) (stage : Stage) (why : Status) :
    Type 0 where
  pub gives_end : GivesEnd old new was is
  pub why_is : why ≡ status_of_end (close_at old.number stage)

-- The job ends at the next line, which is refused.
pub record EndsRefused (most : ℕ) (to_come : List ℕ) (n : ℕ) (stage : Stage) (why : Status) :
    Type 0 where
  pub line : Line
  pub others : List Line
  pub refusal : JobRefusal
  pub follows : lines_of to_come ≡ line ∷ others
  pub refused_is : judgement most (suc n) stage line.bytes ≡ refused refusal
  pub why_is : why ≡ status_of_refusal refusal

-- The job ends because the source failed.
pub record EndsUnread (old new : Reading) (was is : List ℕ) (why : Status) : Type 0 where
  pub why_is : why ≡ status.ReadFault
  pub stops : StopsInLine old new was is

-- Why a job ends after some lines.
abbrev pub EndsJob : ℕ → Reading → Reading → List ℕ → List ℕ → Stage → Status → Type 0
EndsJob most old new was is stage why =
    EndsClean old new was is stage why
    ⊎ (EndsRefused most (old.held ++ was) old.number stage why
    ⊎ (EndsUnread old new was is why ⊎ (why ≡ status.NoMemory)))

-- what a run ends with once its text is out
abbrev pub IsEnd : Status → Type 0
IsEnd status.Usage = ⊥
IsEnd status.WriteFault = ⊥
IsEnd why = Unit {0}

-- a claim about the text where the source failed, none where memory ran out, and another where the
-- job came to its end
abbrev pub IfUnread : Status → Type 0 → Type 0 → Type 0
IfUnread status.ReadFault unread read = unread
IfUnread status.NoMemory unread read = Unit {0}
IfUnread why unread read = read

-- `text` is a prefix of the input's text.
abbrev pub IsPrefixOfText : Terms → List ℕ → List ℕ → Type 0
IsPrefixOfText terms bytes text =
    (more : List ℕ) × ((output terms (verdict terms.lines (lines_of bytes))).text ≡ text ++ more)

-- both ends of a source tell their bytes
abbrev pub TellBytes : Option (List ℕ) → Option (List ℕ) → Type 0
TellBytes left left' = BothKnown left left' (λ was is. Unit {0})

-- What a run has when it ends: its text, passed on but for what the page holds.
pub record HasEnded (terms : Terms) (left0 left written0 written : Option (List ℕ)) (page : List ℕ)
    (why : Status) : Type 0 where
  pub text : List ℕ
  pub passed : PassesOn written0 [] written page text
  pub front : BothKnown left0 left (λ bytes is. IsPrefixOfText terms bytes text)
  pub job : BothKnown left0 left (λ bytes is.
      IfUnread why (IsPrefixOfJob terms bytes is text) (IsJob terms bytes text why))
