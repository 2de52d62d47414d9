-- The job of a trial, which is made from three numbers: a seed, how many vertices there are, and how many updates follow
-- them.
use Rattle.std.specs.Prelude.{ℕ, zero, suc, ◌+◌, ◌-◌, ◌*◌, ◌/◌, ◌%◌, Bool, List, [], ◌++◌, eqb, nat_lt, codes, decimal, if◌then◌else◌}
use Rattle.graph_types.specs.meaning.Graph.{Graph, edge_between, empty_graph, has_edge, with_edge, with_vertex, without_edge}

-- ---- what is drawn

-- a state is below this number
abbrev pub states_end : ℕ
states_end = 2147483648

-- the state after another one
abbrev pub next_state : ℕ → ℕ
next_state x = (x * 1103515245 + 12345) % states_end

-- the number below `end` that a state gives, by its upper bits
abbrev pub number_below : ℕ → ℕ → ℕ
number_below end x = (x / 65536) % end

-- the first of two vertices from 1 to n, drawn after state x
abbrev pub first_drawn : ℕ → ℕ → ℕ
first_drawn n x = 1 + number_below n (next_state x)

-- the vertex of this place among those other than one
abbrev pub other_than : ℕ → ℕ → ℕ
other_than v place = if nat_lt place v then place else place + 1

-- the second of them, which is drawn among the others
abbrev pub second_drawn : ℕ → ℕ → ℕ
second_drawn n x = other_than (first_drawn n x) (1 + number_below (n - 1) (next_state (next_state x)))

-- ---- the vertices

-- three labels in turn
abbrev pub label_name : ℕ → List ℕ
label_name v = if eqb (v % 3) 0 then codes "a" else if eqb (v % 3) 1 then codes "b" else codes "c"

-- `+v ID LABEL`
abbrev pub vertex_line : ℕ → List ℕ
vertex_line v = codes "+v " ++ decimal v ++ codes " " ++ label_name v ++ codes "\n"

-- those of the vertices 1 to n
abbrev pub vertex_lines : ℕ → List ℕ
vertex_lines zero = []
vertex_lines (suc n) = vertex_lines n ++ vertex_line (suc n)

-- the graph that has them, and no edge; its labels play no part here
abbrev pub graph_of_vertices : ℕ → Graph
graph_of_vertices zero = empty_graph
graph_of_vertices (suc n) = with_vertex (graph_of_vertices n) (suc n) 0

-- ---- the edges

-- `-e ID ID` of an edge that stands, `+e ID ID` of another
abbrev pub edge_line : Bool → ℕ → ℕ → List ℕ
edge_line stands from to =
    (if stands then codes "-e " else codes "+e ") ++ decimal from ++ codes " " ++ decimal to ++ codes "\n"

-- the graph without an edge that stands, or with another
abbrev pub toggled : Graph → ℕ × ℕ → Graph
toggled g e = if has_edge g e then without_edge g e else with_edge g e 0

-- The lines of so many updates, from a state and a graph on. Each takes an edge between two of the vertices 1 to n out,
-- or puts it in.
abbrev pub edge_lines : ℕ → ℕ → ℕ → Graph → List ℕ
edge_lines n zero x g = []
edge_lines n (suc updates) x g =
    edge_line (has_edge g (edge_between (first_drawn n x) (second_drawn n x))) (first_drawn n x) (second_drawn n x)
    ++ edge_lines n updates (next_state (next_state x)) (toggled g (edge_between (first_drawn n x) (second_drawn n x)))

-- ---- the whole job

-- the triangles of the graph
abbrev pub header_text : List ℕ
header_text =
    codes "mode vertex\n" ++ codes "size 3\n" ++ codes "filter true\n" ++ codes "match vertices = 3 and edges = 3\n"
    ++ codes "begin\n"

-- A header; then a line for each of the vertices 1 to n; and then a line for each of the updates.
abbrev pub trial_text : ℕ → ℕ → ℕ → List ℕ
trial_text seed n updates = header_text ++ vertex_lines n ++ edge_lines n updates seed (graph_of_vertices n)
