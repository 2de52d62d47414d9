-- What a line does to a job that is being read.
use Rattle.std.specs.Prelude.{◌≡◌, ℕ, List, [], ◌∷◌, Result, Ok, Err, MatchOption, box_value}
use Rattle.graph_types.specs.meaning.Graph.{Graph}
use Rattle.mining_model.specs.meaning.Step.{graph_after}
use Rattle.line_fields.specs.meaning.Names.{Names}
use Rattle.update_reader.specs.declared.Item.{Item}
use Rattle.update_reader.specs.declared.Item.TheVariants as item
use Rattle.update_reader.specs.meaning.Grammar.{LineContent, update, content_of_line}
use Rattle.update_reader.specs.calls.Reading.{AnswersContent, BringsName}
use Rattle.cond_eval.specs.meaning.Patterns.{pattern_of}
use Rattle.program_grammar.specs.meaning.Header.{header_said}
use Rattle.job.specs.declared.fault.JobFault.{JobFault}
use Rattle.job.specs.declared.fault.JobFault.TheVariants as fault
use Rattle.job.specs.declared.judging.Job.{Job}
use Rattle.job.specs.declared.stream.Stream.{Stream}
use Rattle.job.specs.calls.Standing.{IsAt, IsStageOf}
use Rattle.job.specs.meaning.Judging.{Stage, open_updates, Judgement, refused, moved, accepted, header_judgement, text_judgement}
use Rattle.job.specs.storage.HeaderSoFar.{HeaderSoFar}

-- line n of a header leads to this, by its judgement
abbrev pub AnswersHeader : Judgement → Result Job JobFault → Type 0
AnswersHeader j (Ok job) = (next : Stage) × (j ≡ moved next) × IsStageOf next job
AnswersHeader j (Err (fault.Refused why)) = j ≡ refused why
AnswersHeader j (Err fault.NoMemory) = Unit {0}

abbrev pub TakesHeader : ℕ → HeaderSoFar → List ℕ → Result Job JobFault → Type 0
TakesHeader n h text result = AnswersHeader (header_judgement n (header_said h.reader text h.names)) result

-- A line of the stream that says this item, and is accepted, is judged so: an update is a group of its own where
-- no batch is open, and `end` accepts the updates of the batch that is. All else brings no timestamp.
abbrev pub LeadsBy : Stage → Item → Judgement → Stage → Type 0
LeadsBy stage (item.Update u) j next = MatchOption (open_updates stage) (j ≡ accepted (u ∷ []) next) (λ us. j ≡ moved next)
LeadsBy stage item.BatchEnd j next = MatchOption (open_updates stage) ⊥ (λ us. j ≡ accepted us next)
LeadsBy stage what j next = j ≡ moved next

-- the graph once the item is made in it
abbrev pub graph_with : Item → Graph → Graph
graph_with (item.Update u) g = graph_after g u
graph_with what g = g

-- Line n of the stream, whose CR was dropped, after a stage: it has this judgement, and the stream then stands at its
-- stage, once the update is made in its graph. Memory runs out only for a new name.
abbrev pub TakesLine : ℕ → Stage → List ℕ → Names → Result Item JobFault → Stream → Type 0
TakesLine n stage text names (Ok what) s =
    (next : Stage) × LeadsBy stage what (text_judgement n stage text) next
    × IsAt next (pattern_of (box_value s.program)) s.names (graph_with what s.graph) s.batch
TakesLine n stage text names (Err (fault.Refused why)) s = text_judgement n stage text ≡ refused why
TakesLine n stage text names (Err fault.NoMemory) s = BringsName names (content_of_line names text)

-- the names once a line is read that says this, also where the update is refused
abbrev pub names_with : Names → LineContent → Names
names_with old (update u later) = later
names_with old what = old

-- the item is what the line says, and the names then are known
abbrev pub LearnsNames : Names → List ℕ → Result Item JobFault → Names → Type 0
LearnsNames old text (Ok what) new = AnswersContent old (content_of_line old text) (Ok what) new
LearnsNames old text (Err (fault.Refused why)) new = new ≡ names_with old (content_of_line old text)
LearnsNames old text (Err fault.NoMemory) new = new ≡ old
