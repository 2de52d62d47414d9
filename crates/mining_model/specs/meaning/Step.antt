-- What an update does to a graph, and the graph that a list of updates leaves.
use Rattle.std.specs.Prelude.{ℕ, not, List, [], ◌∷◌, eqb, Result, Ok, Err, if◌then◌else◌}
use Rattle.graph_types.specs.meaning.Graph.{Graph, has_vertex, has_edge, edge_between, with_vertex, with_edge, without_vertex, without_edge}
use Rattle.graph_types.specs.declared.refusal.Refusal.{Refusal}
use Rattle.graph_types.specs.declared.refusal.Refusal.TheVariants as refusal
use Rattle.graph_types.specs.declared.update.Update.{Update}
use Rattle.graph_types.specs.declared.update.Update.TheVariants.{AddVertex, RemoveVertex, LabelVertex, AddEdge, RemoveEdge, LabelEdge}

-- an update of an edge, whose ends have to be two vertices of the graph
abbrev pub at_edge : Graph → ℕ → ℕ → (ℕ × ℕ → Result Graph Refusal) → Result Graph Refusal
at_edge g from to update =
    if eqb from to then Err refusal.Loop
    else if not (has_vertex g from) then Err (refusal.NoVertex from)
    else if not (has_vertex g to) then Err (refusal.NoVertex to)
    else update (edge_between from to)

-- what comes of an update of an edge whose ends are there
abbrev pub add_edge : Graph → ℕ → ℕ × ℕ → Result Graph Refusal
add_edge g label e = if has_edge g e then Err refusal.EdgeExists else Ok (with_edge g e label)

abbrev pub remove_edge : Graph → ℕ × ℕ → Result Graph Refusal
remove_edge g e = if has_edge g e then Ok (without_edge g e) else Err refusal.NoEdge

abbrev pub label_edge : Graph → ℕ → ℕ × ℕ → Result Graph Refusal
label_edge g label e = if has_edge g e then Ok (with_edge g e label) else Err refusal.NoEdge

-- the graph after an update, or the first reason to refuse it
abbrev pub step : Graph → Update → Result Graph Refusal
step g (AddVertex id label) = if has_vertex g id then Err refusal.VertexExists else Ok (with_vertex g id label)
step g (RemoveVertex id) = if has_vertex g id then Ok (without_vertex g id) else Err (refusal.NoVertex id)
step g (LabelVertex id label) = if has_vertex g id then Ok (with_vertex g id label) else Err (refusal.NoVertex id)
step g (AddEdge from to label) = at_edge g from to (add_edge g label)
step g (RemoveEdge from to) = at_edge g from to (remove_edge g)
step g (LabelEdge from to label) = at_edge g from to (label_edge g label)

-- the graph that a step left, and g where it was refused
abbrev pub graph_left_by : Graph → Result Graph Refusal → Graph
graph_left_by g (Ok graph_after) = graph_after
graph_left_by g (Err why) = g

-- the graph after an update; a refused one changes nothing
abbrev pub graph_after : Graph → Update → Graph
graph_after g u = graph_left_by g (step g u)

-- the graph after some updates, from g on
abbrev pub graph_after_all : Graph → List Update → Graph
graph_after_all g [] = g
graph_after_all g (u ∷ us) = graph_after_all (graph_after g u) us
