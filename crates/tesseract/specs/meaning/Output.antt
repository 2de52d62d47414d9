-- What is written for a job, and how it ends, on its terms: how many lines it may have, and how many records a
-- timestamp, and in which format records are written.
use Rattle.std.specs.Prelude.{◌≡◌, ℕ, zero, suc, ◌*◌, ◌^◌, ◌<◌, ◌≤◌, ◌⊎◌, List, [], ◌∷◌, ◌++◌, length, nat_lt}
use Rattle.std.specs.Prelude.{Option, None, Some, if◌then◌else◌}
use Rattle.graph_types.specs.meaning.Graph.{Graph, empty_graph}
use Rattle.mining_model.specs.meaning.History.{Group, history, graph_at}
use Rattle.mining_model.specs.meaning.Embeddings.{Pattern}
use Rattle.record_text.specs.declared.record_format.RecordFormat.{RecordFormat}
use Rattle.record_text.specs.meaning.Text.{count_after, count_in, history_text, opening_text, record_count, step_text}
use Rattle.tesseract.specs.declared.terms.Terms.{Terms}
use Rattle.tesseract.specs.declared.status.Status.{Status}
use Rattle.tesseract.specs.declared.status.Status.TheVariants as status
use Rattle.tesseract.specs.declared.status.LimitKind.TheVariants as limit
use Rattle.job.specs.meaning.Judging.{Verdict, reading_end}
use Rattle.tesseract.specs.meaning.Status.{status_of_end}

-- the most lines that `fold` reads
abbrev pub most_record_lines : ℕ
most_record_lines = 4000000000000

-- All that is written of a job on these terms can be counted in 64 bits: there are at most as many timestamps as lines.
pub record IsCountable (terms : Terms) : Type 0 where
  pub few : terms.lines ≤ 4 * 10 ^ 9
  pub narrow : terms.records < 2 ^ 32

-- a text, and how a job ends
pub record Output : Type 0 where
  pub text : List ℕ
  pub end : Status

-- this text stands before the rest
abbrev pub with_text : List ℕ → Output → Output
with_text text rest = record { text = text ++ rest.text; end = rest.end }

-- What a timestamp adds to what is written after it: its own text; or the job ends before it, where it has
-- too many records. `count` is the one before it, where the format has one.
abbrev pub output_after : ℕ → Option ℕ → Pattern → Graph → Graph → ℕ → Output → Output
output_after most count pattern before now t rest =
    if nat_lt most (record_count pattern before now)
    then record { text = []; end = status.Limit limit.Records t }
    else with_text (step_text count pattern before now t) rest

-- What is written for the timestamps after t, at which the graphs `later` follow g, and where the reading
-- ended so: the text of those before the first that has more records than `most`. There the job ends; where
-- there is none, it ends as the reading did.
abbrev pub output_from : ℕ → Option ℕ → Pattern → Graph → ℕ → List Graph → Status → Output
output_from most count pattern g t [] end = record { text = []; end = end }
output_from most count pattern g t (next ∷ later) end =
    output_after most count pattern g next (suc t)
    (output_from most (count_after pattern g next count) pattern next (suc t) later end)

-- the same of groups of updates, under a program; without a program there is no text
abbrev pub output_under : ℕ → Option ℕ → Option Pattern → Graph → ℕ → List Group → Status → Output
output_under most count None g t groups end = record { text = []; end = end }
output_under most count (Some pattern) g t groups end = output_from most count pattern g t (history g groups) end

-- what stands before the first timestamp; nothing does without a program
abbrev pub opening : RecordFormat → Option Pattern → List ℕ
opening format None = []
opening format (Some pattern) = opening_text format

-- what is written for a job, and how it ends
abbrev pub output : Terms → Verdict → Output
output terms v =
    with_text (opening terms.format v.pattern)
    (output_under terms.records (count_in terms.format 0) v.pattern empty_graph 0 v.groups (status_of_end (reading_end v)))

-- how many records timestamp t has, where these graphs follow g; there are none at timestamp 0
abbrev pub records_at : Pattern → Graph → List Graph → ℕ → ℕ
records_at pattern g later zero = 0
records_at pattern g later (suc t) = record_count pattern (graph_at g later t) (graph_at g later (suc t))

-- The job ends after its last timestamp, which is m, as its reading did.
pub record EndsAfterAll (v : Verdict) (m : ℕ) (end : Status) : Type 0 where
  pub all : m ≡ length v.groups
  pub end_is : end ≡ status_of_end (reading_end v)

-- The job ends before the timestamp after m, which has too many records.
pub record EndsBeforeFull (terms : Terms) (v : Verdict) (pattern : Pattern) (m : ℕ) (end : Status) : Type 0 where
  pub of_job : m < length v.groups
  pub full : terms.records < records_at pattern empty_graph (history empty_graph v.groups) (suc m)
  pub end_is : end ≡ status.Limit limit.Records (suc m)

-- The timestamps 1 to m are written, none of which has too many records, and no other is.
pub record IsWrittenUpto (terms : Terms) (v : Verdict) (pattern : Pattern) (m : ℕ) : Type 0 where
  pub text_is :
      (output terms v).text ≡ history_text terms.format pattern empty_graph (history empty_graph v.groups) m
  pub few :
      (t : ℕ) → t ≤ m → records_at pattern empty_graph (history empty_graph v.groups) t ≤ terms.records
  pub end_is :
      EndsAfterAll v m (output terms v).end ⊎ EndsBeforeFull terms v pattern m (output terms v).end
