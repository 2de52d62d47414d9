-- What a trial tells of its job.
use Rattle.std.specs.Prelude.{ℕ, ◌+◌, ◌-◌, List, [], ◌∷◌, ◌++◌, length, codes, decimal, Option, None, Some}
use Rattle.graph_types.specs.meaning.Graph.{empty_graph}
use Rattle.job.specs.meaning.Judging.{Verdict}
use Rattle.mining_model.specs.meaning.Embeddings.{Pattern}
use Rattle.mining_model.specs.meaning.History.{Group, history}
use Rattle.record_tally.specs.meaning.Totals.{added_upto, removed_upto}

-- the updates of some groups
abbrev pub updates_in : List Group → ℕ
updates_in [] = 0
updates_in (us ∷ groups) = length us + updates_in groups

-- the pieces that come at all timestamps together; without a program there are none
abbrev pub added_in : Option Pattern → List Group → ℕ
added_in None groups = 0
added_in (Some pattern) groups = added_upto pattern empty_graph (history empty_graph groups) (length groups)

-- those that go
abbrev pub removed_in : Option Pattern → List Group → ℕ
removed_in None groups = 0
removed_in (Some pattern) groups = removed_upto pattern empty_graph (history empty_graph groups) (length groups)

-- how many updates there are, how many pieces come, how many go, and what the first of these is more than the second
abbrev pub summary_line : ℕ → ℕ → ℕ → List ℕ
summary_line updates added removed =
    codes "updates " ++ decimal updates ++ codes " new " ++ decimal added ++ codes " rem " ++ decimal removed
    ++ codes " left " ++ decimal (added - removed) ++ codes "\n"

-- the same of a job
abbrev pub summary_text : Verdict → List ℕ
summary_text v = summary_line (updates_in v.groups) (added_in v.pattern v.groups) (removed_in v.pattern v.groups)
