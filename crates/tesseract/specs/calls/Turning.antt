-- What a line does to a run.
use Rattle.std.specs.Prelude.{◌≡◌, ℕ, ◌+◌, ◌<◌, ◌≤◌, List, [], ◌++◌, length, IsTrue, Option, None, Some, Result, Ok, Err}
use Rattle.group_window.specs.meaning.Windows.{most_groups}
use Rattle.job.specs.calls.Taking.{TakesHeader}
use Rattle.job.specs.declared.fault.JobFault.{JobFault}
use Rattle.job.specs.declared.judging.Job.{Job}
use Rattle.job.specs.declared.judging.Job.TheVariants.{Heading, Streaming}
use Rattle.job.specs.meaning.Judging.{Stage, pattern_at}
use Rattle.job.specs.storage.HeaderSoFar.{HeaderSoFar}
use Rattle.job_io.specs.calls.Ends.{BothKnown, AppendsPrefix, PassesOn}
use Rattle.job_io.specs.declared.ends.WriteFault.{WriteFault}
use Rattle.job_io.specs.meaning.Lines.{Reading, FitsLine, GivesLine, without_cr}
use Rattle.mining_model.specs.meaning.Embeddings.{Pattern}
use Rattle.record_text.specs.declared.record_format.RecordFormat.{RecordFormat}
use Rattle.record_text.specs.meaning.Text.{opening_text}
use Rattle.tesseract.specs.declared.mine.Run.{Run}
use Rattle.tesseract.specs.declared.mine.Turn.{Turn}
use Rattle.tesseract.specs.declared.mine.Turn.TheVariants.{More, End}
use Rattle.tesseract.specs.declared.mining.Emptied.{Emptied}
use Rattle.tesseract.specs.declared.mining.Emptied.TheVariants as emptied
use Rattle.tesseract.specs.declared.terms.Plan.{Plan}
use Rattle.tesseract.specs.declared.terms.Terms.{Terms}
use Rattle.tesseract.specs.declared.status.Status.{Status}
use Rattle.tesseract.specs.declared.waiting.Waiting.{Waiting}
use Rattle.tesseract.specs.calls.Progress.{Progress, all_mined}
use Rattle.tesseract.specs.calls.Run.{WritesPrefix}
use Rattle.tesseract.specs.calls.Running.{IsRunning, HasEnded, EndsJob, IsEnd}
use Rattle.tesseract.specs.calls.Waiting.{Waits, WaitsAll}
use Rattle.tesseract.specs.meaning.Status.{status_of_fault}

-- The reader gave one line more.
pub record StandsAtNext (old new : Reading) : Type 0 where
  pub counted : new.number ≡ old.number + 1
  pub few : new.number ≤ new.most
  pub same_most : new.most ≡ old.most
  pub live : IsTrue new.live

-- The reader gave the next line: this is its number, and these are its bytes without a CR.
pub record IsGiven (old new : Reading) (was is : Option (List ℕ)) (n : ℕ) (text : List ℕ) : Type 0 where
  pub gives : BothKnown was is (GivesLine old new)
  pub fits : FitsLine new.line
  pub stands : StandsAtNext old new
  pub number_is : n ≡ new.number
  pub text_is : text ≡ without_cr new.line.bytes

-- The reader gives the next line, or the job ends.
abbrev pub Advances : Stage → Reading → Reading → Option (List ℕ) → Option (List ℕ) →
    Option Status → Type 0
Advances stage old new was is None =
    BothKnown was is (GivesLine old new) × FitsLine new.line × StandsAtNext old new
Advances stage old new was is (Some why) =
    IsEnd why × BothKnown was is (λ was is. EndsJob old.most old new was is stage why)

-- the plan of a run: windows that can be, and a shard
pub record IsPlan (plan : Plan) : Type 0 where
  pub some_group : 1 ≤ plan.window
  pub narrow : plan.window ≤ most_groups
  pub some_shard : 1 ≤ plan.shards

-- Between two lines a run stands at a progress: its job does, and what waits is what was accepted since; and there
-- is room for a group more.
pub record Stands (terms : Terms) (plan : Plan) (p : Progress) (run : Run) : Type 0 where
  pub waits : WaitsAll terms plan p run.job run.waiting
  pub room : length run.waiting.window.later < plan.window
  pub lines_are : p.lines ≤ terms.lines

-- it stands somewhere
abbrev pub StandsSomewhere : Terms → Plan → Run → Type 0
StandsSomewhere terms plan run = (p : Progress) × Stands terms plan p run

-- it stands before line n
abbrev pub StandsBefore : Terms → Plan → ℕ → Run → Type 0
StandsBefore terms plan n run = (p : Progress) × (p.lines + 1 ≡ n) × Stands terms plan p run

-- what waits is what was accepted under this program
pub record WaitsUnder (terms : Terms) (plan : Plan) (pattern : Pattern) (p : Progress) (w : Waiting) : Type 0 where
  pub waits : Waits terms plan p w
  pub lines_are : p.lines ≤ terms.lines
  pub known : pattern_at p.stage ≡ Some pattern

-- The window is empty, and the shards keep the graph that what waited led to.
pub record IsEmptied (terms : Terms) (plan : Plan) (pattern : Pattern) (p : Progress) (w : Waiting) : Type 0 where
  pub waits : Waits terms plan (all_mined pattern p) w
  pub empty : w.window.later ≡ []
  pub closed : w.window.current ≡ None

-- What mining what waits leads to: nothing waits any more, or the job ends.
abbrev pub Empties : Terms → Plan → Pattern → Progress → Option (List ℕ) → Option (List ℕ) → Option (List ℕ) →
    Option (List ℕ) → Option (List ℕ) → List ℕ → Reading → Result Emptied WriteFault → Type 0
Empties terms plan pattern p left0 left left' written0 written page reader (Ok (emptied.Nothing waiting)) =
    IsEmptied terms plan pattern p waiting
    × IsRunning terms left0 left written0 written page reader (all_mined pattern p)
Empties terms plan pattern p left0 left left' written0 written page reader (Ok (emptied.End why)) =
    IsEnd why × HasEnded terms left0 left' written0 written page why
Empties terms plan pattern p left0 left left' written0 written page reader (Err fault) =
    WritesPrefix terms left0 left' written0 written

-- A line leads a run on, or the run ends.
abbrev pub Turns : Terms → Plan → Option (List ℕ) → Option (List ℕ) → Option (List ℕ) → Option (List ℕ) →
    List ℕ → Reading → Result Turn WriteFault → Type 0
Turns terms plan left0 left written0 written page reader (Ok (More run)) =
    (p : Progress) × IsRunning terms left0 left written0 written page reader p × Stands terms plan p run
Turns terms plan left0 left written0 written page reader (Ok (End why)) =
    IsEnd why × HasEnded terms left0 left written0 written page why
Turns terms plan left0 left written0 written page reader (Err fault) =
    WritesPrefix terms left0 left written0 written

-- what stands before the first timestamp, for a job that is in its stream
abbrev pub opening_for : RecordFormat → Job → List ℕ
opening_for format (Heading header) = []
opening_for format (Streaming stream) = opening_text format

-- Line n of a header leads on, or the run ends.
abbrev pub TakesHeading : Terms → ℕ → HeaderSoFar → List ℕ → Waiting → Option (List ℕ) → List ℕ → Option (List ℕ) → List ℕ →
    Result Turn WriteFault → Type 0
TakesHeading terms n header text waiting written page written' page' (Ok (More run)) =
    (run.waiting ≡ waiting) × TakesHeader n header text (Ok run.job)
    × PassesOn written page written' page' (opening_for terms.format run.job)
TakesHeading terms n header text waiting written page written' page' (Ok (End why)) =
    (fault : JobFault) × (why ≡ status_of_fault fault) × TakesHeader n header text (Err fault)
    × ((written' ≡ written) × (page' ≡ page))
TakesHeading terms n header text waiting written page written' page' (Err fault) =
    (job : Job) × TakesHeader n header text (Ok job)
    × AppendsPrefix written written' (page ++ opening_for terms.format job)

-- The run has ended.
abbrev pub IsAtEnd : Turn → Type 0
IsAtEnd (More run) = ⊥
IsAtEnd (End why) = Unit {0}

-- Where a line leads on, the reader stands at the next one.
abbrev pub GoesToNext : Reading → Reading → Result Turn WriteFault → Type 0
GoesToNext old new (Ok (More run)) = StandsAtNext old new
GoesToNext old new (Ok (End why)) = Unit {0}
GoesToNext old new (Err fault) = Unit {0}

-- All lines were taken, or the run ended before its job did.
abbrev pub MinesLines : Terms → Option (List ℕ) → Option (List ℕ) → Option (List ℕ) → Option (List ℕ) →
    List ℕ → Result Status WriteFault → Type 0
MinesLines terms left0 left written0 written page (Ok why) =
    IsEnd why × HasEnded terms left0 left written0 written page why
MinesLines terms left0 left written0 written page (Err fault) =
    WritesPrefix terms left0 left written0 written
