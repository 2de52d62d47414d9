-- How far a job has come, and what is left of it.
use Rattle.std.specs.Prelude.{◌≡◌, ℕ, ◌+◌, List, [], ◌∷◌, ◌++◌, length, Option}
use Rattle.graph_types.specs.meaning.Graph.{Graph, empty_graph}
use Rattle.group_window.specs.meaning.Windows.{last_or}
use Rattle.job_io.specs.meaning.Lines.{Line}
use Rattle.mining_model.specs.meaning.Embeddings.{Pattern}
use Rattle.mining_model.specs.meaning.History.{Group, history}
use Rattle.record_text.specs.declared.record_format.RecordFormat.{RecordFormat}
use Rattle.record_text.specs.meaning.Text.{count_after, count_in}
use Rattle.job.specs.meaning.Judging.{Stage, heading, streaming, batching, first_stage, Verdict, verdict_from, verdict, reading_end}
use Rattle.tesseract.specs.declared.terms.Terms.{Terms}
use Rattle.tesseract.specs.meaning.Output.{Output, with_text, opening, output_under, output}
use Rattle.tesseract.specs.meaning.Status.{status_of_end}

-- How many lines were judged, and where this led; the last timestamp that was mined, the graph there, and the count
-- that its line had, if the format has counts; and the groups that were accepted since and wait to be mined.
pub record Progress : Type 0 where
  pub lines : ℕ
  pub stage : Stage
  pub stamp : ℕ
  pub mined : Graph
  pub count : Option ℕ
  pub waiting : List Group

-- before the first line
abbrev pub first_progress : Terms → Progress
first_progress terms =
    record { lines = 0; stage = first_stage; stamp = 0; mined = empty_graph; count = count_in terms.format 0; waiting = [] }

-- the count after some graphs, which follow another one
abbrev pub count_after_all : Pattern → Graph → List Graph → Option ℕ → Option ℕ
count_after_all pattern g [] count = count
count_after_all pattern g (next ∷ later) count = count_after_all pattern next later (count_after pattern g next count)

-- all that waits is mined, under a program
abbrev pub all_mined : Pattern → Progress → Progress
all_mined pattern p = record {
  lines = p.lines;
  stage = p.stage;
  stamp = p.stamp + length p.waiting;
  mined = last_or p.mined (history p.mined p.waiting);
  count = count_after_all pattern p.mined (history p.mined p.waiting) p.count;
  waiting = [];
}

-- what stands before the first timestamp is written once the header is whole
abbrev pub opening_to_come : RecordFormat → Stage → Option Pattern → List ℕ
opening_to_come format (heading next names) pattern = opening format pattern
opening_to_come format (streaming mined_for names g) pattern = []
opening_to_come format (batching mined_for names g us) pattern = []

-- what is written from there on, by the verdict on the lines to come
abbrev pub output_to_come : Terms → Progress → Verdict → Output
output_to_come terms p v =
    with_text (opening_to_come terms.format p.stage v.pattern)
    (output_under terms.records p.count v.pattern p.mined p.stamp (p.waiting ++ v.groups) (status_of_end (reading_end v)))

-- After these lines a job has come so far, and this is the text of what was mined: whatever lines follow, what
-- is said of all of them is said of those to come.
pub record HasReached (terms : Terms) (gone : List Line) (text : List ℕ) (p : Progress) : Type 0 where
  pub whole_output : (lines : List Line) →
      output terms (verdict terms.lines (gone ++ lines))
      ≡ with_text text (output_to_come terms p (verdict_from terms.lines p.lines p.stage lines))
  pub whole_stop : (lines : List Line) →
      (verdict terms.lines (gone ++ lines)).stop ≡ (verdict_from terms.lines p.lines p.stage lines).stop
  pub whole_close : (lines : List Line) →
      (verdict terms.lines (gone ++ lines)).close ≡ (verdict_from terms.lines p.lines p.stage lines).close
