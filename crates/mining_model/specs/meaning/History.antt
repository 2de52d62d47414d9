-- Graphs that follow one another, and the groups of updates that lead from each to the next.
use Rattle.std.specs.Prelude.{ℕ, zero, suc, ◌<◌, ◌^◌, List, [], ◌∷◌}
use Rattle.graph_types.specs.meaning.Graph.{Graph, empty_graph}
use Rattle.graph_types.specs.declared.update.Update.{Update}
use Rattle.graph_types.specs.declared.update.Update.TheVariants.{AddVertex}
use Rattle.mining_model.specs.meaning.Step.{graph_after_all}

-- the updates that share a timestamp
abbrev pub Group : Type 0
Group = List Update

-- the id of a vertex that the update adds fits 32 bits; other updates add none
abbrev pub AddsShortId : Update → Type 0
AddsShortId (AddVertex id label) = id < 2 ^ 32
AddsShortId u = Unit {0}

-- the graphs after some groups of updates, one after the other, from g on
abbrev pub history : Graph → List Group → List Graph
history g [] = []
history g (us ∷ groups) = graph_after_all g us ∷ history (graph_after_all g us) groups

-- The graph at timestamp t of a history, where g is the one before the first timestamp. After the last it stays.
abbrev pub graph_at : Graph → List Graph → ℕ → Graph
graph_at g later zero = g
graph_at g [] (suc t) = g
graph_at g (next ∷ later) (suc t) = graph_at next later t

-- the graph after the first t groups, from nothing
abbrev pub snapshot : List Group → ℕ → Graph
snapshot groups t = graph_at empty_graph (history empty_graph groups) t
