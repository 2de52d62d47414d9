-- What the lines of a job say.
use Rattle.std.specs.Prelude.{ℕ, suc, List, [], ◌∷◌, ◌++◌, length, nat_lt}
use Rattle.std.specs.Prelude.{Option, None, Some, Result, Ok, Err, if◌then◌else◌}
use Rattle.std.specs.Option.{option_or}
use Rattle.graph_types.specs.meaning.Graph.{Graph, empty_graph}
use Rattle.graph_types.specs.declared.refusal.Refusal.{Refusal}
use Rattle.graph_types.specs.declared.update.Update.{Update}
use Rattle.job_io.specs.meaning.Lines.{Line, without_cr, most_line_bytes}
use Rattle.mining_model.specs.meaning.History.{Group}
use Rattle.mining_model.specs.meaning.Step.{step, graph_after_all}
use Rattle.mining_model.specs.meaning.Embeddings.{Pattern}
use Rattle.line_fields.specs.meaning.Names.{Names, first_names}
use Rattle.update_reader.specs.meaning.Grammar.{LineContent, nothing, commit, batch_begin, batch_end, update, too_many_labels, bad_line, content_of_line}
use Rattle.cond_eval.specs.meaning.Patterns.{pattern_of}
use Rattle.program_grammar.specs.declared.fault.ProgramKind.{ProgramKind}
use Rattle.program_grammar.specs.declared.fault.ProgramKind.TheVariants as kind
use Rattle.program_grammar.specs.declared.header.HeaderReader.{HeaderReader}
use Rattle.program_grammar.specs.declared.header.HeaderReader.TheVariants as header
use Rattle.program_grammar.specs.declared.header.HeaderStep.{HeaderStep}
use Rattle.program_grammar.specs.declared.header.HeaderStep.TheVariants.{More, Ready}
use Rattle.program_grammar.specs.meaning.Header.{awaited_word, header_said}
use Rattle.job.specs.declared.fault.JobRefusal.{JobRefusal}
use Rattle.job.specs.declared.fault.JobRefusal.TheVariants as refusal

-- the most updates of a batch
abbrev pub most_batch_updates : ℕ
most_batch_updates = 1024

-- where the reading of a job stands, with the names of the labels that were used so far
pub data Stage : Type 0 where
  -- in its header
  heading : HeaderReader → Names → Stage
  -- among its updates, which left this graph
  streaming : Pattern → Names → Graph → Stage
  -- in a batch that is open: the graph before it, and its updates so far
  batching : Pattern → Names → Graph → Group → Stage

-- before the first line
abbrev pub first_stage : Stage
first_stage = heading header.Mode first_names

-- what is mined for, once the header is whole
abbrev pub pattern_at : Stage → Option Pattern
pattern_at (heading next names) = None
pattern_at (streaming pattern names g) = Some pattern
pattern_at (batching pattern names before us) = Some pattern

abbrev pub names_at : Stage → Names
names_at (heading next names) = names
names_at (streaming pattern names g) = names
names_at (batching pattern names before us) = names

-- the graph that all updates so far left, those of an open batch among them; nothing while the header is read
abbrev pub graph_at_stage : Stage → Graph
graph_at_stage (heading next names) = empty_graph
graph_at_stage (streaming pattern names g) = g
graph_at_stage (batching pattern names before us) = graph_after_all before us

-- the graph at the last timestamp: what an open batch did is not in it
abbrev pub graph_of_groups : Stage → Graph
graph_of_groups (heading next names) = empty_graph
graph_of_groups (streaming pattern names g) = g
graph_of_groups (batching pattern names before us) = before

-- the updates of the open batch, if one is open
abbrev pub open_updates : Stage → Option Group
open_updates (heading next names) = None
open_updates (streaming pattern names g) = None
open_updates (batching pattern names before us) = Some us

-- what comes of a line: it is refused; it leads on, and brings no timestamp; or it brings one, with a group of
-- updates
pub data Judgement : Type 0 where
  refused : JobRefusal → Judgement
  moved : Stage → Judgement
  accepted : Group → Stage → Judgement

-- line n, which belongs to the header, by what it says
abbrev pub header_judgement : ℕ → Result (HeaderStep × Names) ProgramKind → Judgement
header_judgement n (Ok (More next, names)) = moved (heading next names)
header_judgement n (Ok (Ready program, names)) = moved (streaming (pattern_of program) names empty_graph)
header_judgement n (Err why) = refused (refusal.Program n why)

-- an update outside a batch, by what the graph makes of it; it is a group of its own
abbrev pub step_judgement : ℕ → Pattern → Names → Update → Result Graph Refusal → Judgement
step_judgement n pattern names u (Ok after) = accepted (u ∷ []) (streaming pattern names after)
step_judgement n pattern names u (Err why) = refused (refusal.Update n why)

-- Line n, where no batch is open, by what it says. A line that says nothing changes nothing, and neither does
-- `commit`.
abbrev pub content_judgement : ℕ → Pattern → Names → Graph → LineContent → Judgement
content_judgement n pattern names g nothing = moved (streaming pattern names g)
content_judgement n pattern names g commit = moved (streaming pattern names g)
content_judgement n pattern names g batch_begin = moved (batching pattern names g [])
content_judgement n pattern names g batch_end = refused (refusal.BadLine n)
content_judgement n pattern names g (update u later) = step_judgement n pattern later u (step g u)
content_judgement n pattern names g too_many_labels = refused (refusal.Labels n)
content_judgement n pattern names g bad_line = refused (refusal.BadLine n)

-- an update in a batch, by what the graph makes of it; it joins those before it
abbrev pub join_judgement : ℕ → Pattern → Names → Graph → Group → Update → Result Graph Refusal → Judgement
join_judgement n pattern names before us u (Ok after) = moved (batching pattern names before (us ++ u ∷ []))
join_judgement n pattern names before us u (Err why) = refused (refusal.Update n why)

-- an update in a batch: it may be one too many, and else is judged by the graph that all before it left
abbrev pub batched_judgement : ℕ → Pattern → Names → Graph → Group → Update → Judgement
batched_judgement n pattern names before us u =
    if nat_lt (length us) most_batch_updates
    then join_judgement n pattern names before us u (step (graph_after_all before us) u)
    else refused (refusal.Batch n)

-- Line n in an open batch, by what it says. The batch is a group once it ends.
abbrev pub batch_judgement : ℕ → Pattern → Names → Graph → Group → LineContent → Judgement
batch_judgement n pattern names before us nothing = moved (batching pattern names before us)
batch_judgement n pattern names before us commit = refused (refusal.BadLine n)
batch_judgement n pattern names before us batch_begin = refused (refusal.BadLine n)
batch_judgement n pattern names before us batch_end = accepted us (streaming pattern names (graph_after_all before us))
batch_judgement n pattern names before us (update u later) = batched_judgement n pattern later before us u
batch_judgement n pattern names before us too_many_labels = refused (refusal.Labels n)
batch_judgement n pattern names before us bad_line = refused (refusal.BadLine n)

-- line n, without its CR
abbrev pub text_judgement : ℕ → Stage → List ℕ → Judgement
text_judgement n (heading next names) text = header_judgement n (header_said next text names)
text_judgement n (streaming pattern names g) text = content_judgement n pattern names g (content_of_line names text)
text_judgement n (batching pattern names before us) text =
    batch_judgement n pattern names before us (content_of_line names text)

-- line n, where at most `most` lines are allowed
abbrev pub judgement : ℕ → ℕ → Stage → List ℕ → Judgement
judgement most n stage bytes =
    if nat_lt most n then refused (refusal.Lines n)
    else if nat_lt most_line_bytes (length bytes) then refused (refusal.LineBytes n)
    else text_judgement n stage (without_cr bytes)

-- why a job is refused that ends well until here, after n lines; it is not where its header is whole and no
-- batch is open
abbrev pub close_at : ℕ → Stage → Option JobRefusal
close_at n (heading next names) = Some (refusal.Program n (kind.Missing (awaited_word next)))
close_at n (streaming pattern names g) = None
close_at n (batching pattern names before us) = Some (refusal.OpenBatch n)

-- What reading a job gives: the pattern, where its header is whole; the groups of updates that were accepted,
-- one for each timestamp; the refusal that stopped it, if a line was refused; and the one at its end, if none was.
pub record Verdict : Type 0 where
  pub pattern : Option Pattern
  pub groups : List Group
  pub stop : Option JobRefusal
  pub close : Option JobRefusal

-- nothing more is read after n lines
abbrev pub verdict_at_end : ℕ → Stage → Option JobRefusal → Verdict
verdict_at_end n stage stop =
    record { pattern = pattern_at stage; groups = []; stop = stop; close = close_at n stage }

-- a timestamp with these updates came before all that
abbrev pub with_group : Group → Verdict → Verdict
with_group us v =
    record { pattern = v.pattern; groups = us ∷ v.groups; stop = v.stop; close = v.close }

-- what comes of a line after n others, and of those after it
abbrev pub verdict_after : ℕ → Stage → Judgement → (Stage → Verdict) → Verdict
verdict_after n stage (refused why) rest = verdict_at_end n stage (Some why)
verdict_after n stage (moved next) rest = rest next
verdict_after n stage (accepted us next) rest = with_group us (rest next)

-- The lines after n others, where at most `most` are allowed. The first that is refused ends all.
abbrev pub verdict_from : ℕ → ℕ → Stage → List Line → Verdict
verdict_from most n stage [] = verdict_at_end n stage None
verdict_from most n stage (line ∷ lines) =
    verdict_after n stage (judgement most (suc n) stage line.bytes) (λ next. verdict_from most (suc n) next lines)

-- the verdict on a whole job
abbrev pub verdict : ℕ → List Line → Verdict
verdict most lines = verdict_from most 0 first_stage lines

-- why the reading of a job ends before all is accepted
abbrev pub reading_end : Verdict → Option JobRefusal
reading_end v = option_or v.stop v.close
