-- How one stage follows another, and what is known of all that is accepted.
use Rattle.std.specs.Prelude.{◌≡◌, ℕ, ◌≤◌, All, length, None, Some, IfSome}
use Rattle.graph_types.specs.meaning.Piece.{most_members}
use Rattle.mining_model.specs.meaning.Embeddings.{Pattern}
use Rattle.mining_model.specs.meaning.History.{AddsShortId, Group}
use Rattle.mining_model.specs.meaning.Step.{graph_after_all}
use Rattle.job.specs.meaning.Judging.{Stage, Verdict, pattern_at, graph_at_stage, graph_of_groups, open_updates, most_batch_updates}

-- A line that leads on leaves the graph of the last timestamp as it was, and what is mined for, once that is
-- known.
pub record LeadsOn (stage next : Stage) : Type 0 where
  pub same_graph : graph_of_groups next ≡ graph_of_groups stage
  pub same_pattern : (pattern : Pattern) → pattern_at stage ≡ Some pattern → pattern_at next ≡ Some pattern

-- A group that is accepted steps the graph of the last timestamp, and no batch is open after it. What is mined
-- for is known, and stays.
pub record Accepts (stage : Stage) (us : Group) (next : Stage) : Type 0 where
  pub pattern : Pattern
  pub known : pattern_at stage ≡ Some pattern
  pub same_pattern : pattern_at next ≡ Some pattern
  pub stepped : graph_of_groups next ≡ graph_after_all (graph_of_groups stage) us
  pub closed : open_updates next ≡ None
  pub whole : graph_at_stage next ≡ graph_of_groups next

-- what every verdict on lines is like, where at most `most` are allowed
pub record IsBounded (most : ℕ) (v : Verdict) : Type 0 where
  -- No piece that is mined for has more members than a record can carry.
  pub small : IfSome v.pattern (λ pattern. pattern.size ≤ most_members)
  -- There are no more timestamps than lines,
  pub few : length v.groups ≤ most
  -- no timestamp has more updates than a batch,
  pub narrow : All (λ us. length us ≤ most_batch_updates) v.groups
  -- and the ids of vertices fit 32 bits.
  pub short : All (All AddsShortId) v.groups
