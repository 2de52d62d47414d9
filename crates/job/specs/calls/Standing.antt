-- Where the reading of a job stands, by what is kept of it.
use Rattle.std.specs.Prelude.{◌≡◌, ℕ, length, Option, Some, box_value}
use Rattle.std.specs.Option.{option_map}
use Rattle.graph_types.specs.meaning.Graph.{Graph}
use Rattle.line_fields.specs.meaning.Names.{Names}
use Rattle.mining_model.specs.meaning.Embeddings.{Pattern}
use Rattle.cond_eval.specs.meaning.Patterns.{pattern_of}
use Rattle.job.specs.declared.judging.Job.{Job}
use Rattle.job.specs.declared.judging.Job.TheVariants.{Heading, Streaming}
use Rattle.job.specs.declared.stream.Stream.{Stream}
use Rattle.job.specs.meaning.Judging.{Stage, heading, pattern_at, names_at, graph_at_stage, open_updates}

-- A stage of the stream has this pattern, names and graph, and so many updates in its open batch, if one is open.
pub record IsAt (stage : Stage) (pattern : Pattern) (names : Names) (g : Graph) (batch : Option ℕ) : Type 0 where
  pub mines : pattern_at stage ≡ Some pattern
  pub knows : names_at stage ≡ names
  pub draws : graph_at_stage stage ≡ g
  pub counts : option_map (λ us. length us) (open_updates stage) ≡ batch

abbrev pub IsStageOfStream : Stage → Stream → Type 0
IsStageOfStream stage s = IsAt stage (pattern_of (box_value s.program)) s.names s.graph s.batch

-- the reading of the job stands at this stage
abbrev pub IsStageOf : Stage → Job → Type 0
IsStageOf stage (Heading h) = stage ≡ heading h.reader h.names
IsStageOf stage (Streaming s) = IsStageOfStream stage s
