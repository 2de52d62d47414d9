-- Windows: graphs that follow one another, and a group that may be open.
use Rattle.std.specs.Prelude.{◌≡◌, ◌<◌, ◌≤◌, ◌+◌, ◌^◌, ℕ, List, [], ◌∷◌, ◌++◌, length, Option, None, Some, IfSome, IsSome, unwrap_or, refl}
use Rattle.std.specs.Coded.{Coded, code_by, coded×, coded_list, coded_option, coded_ℕ}
use Rattle.std.specs.List.{AllByRecursion}
use Rattle.graph_types.specs.meaning.Graph.{Graph, empty_graph, graph_code}
use Rattle.graph_types.specs.meaning.Simple.{IsSimple}
use Rattle.mining_model.specs.meaning.History.{graph_at}

-- the most groups of a window, and the most updates of a group
abbrev pub most_groups : ℕ
most_groups = 4096

abbrev pub most_updates : ℕ
most_updates = 1024

-- updates that follow one another: how many, and the graphs before and after them
pub record RunValue : Type 0 where
  pub len : ℕ
  pub before : Graph
  pub after : Graph

-- what contracts see of a window
pub record WindowValue : Type 0 where
  -- the timestamp before that of the first group
  pub first : ℕ
  pub shards : ℕ
  -- the graph before the first group; none while there is no group, so that an empty window stands on every graph
  pub base : Option Graph
  -- the graph after each group
  pub later : List Graph
  -- the group that is open, if one is: its updates so far, if it has any
  pub current : Option (Option RunValue)

abbrev pub last_or : Graph → List Graph → Graph
last_or g [] = g
last_or g (next ∷ later) = last_or next later

-- the graph after the groups, if there are any
abbrev pub closed_graph : Option Graph → List Graph → Option Graph
closed_graph None later = None
closed_graph (Some g) later = Some (last_or g later)

abbrev pub graph_after_run : Option Graph → Option RunValue → Option Graph
graph_after_run closed None = closed
graph_after_run closed (Some run) = Some run.after

abbrev pub graph_after_current : Option Graph → Option (Option RunValue) → Option Graph
graph_after_current closed None = closed
graph_after_current closed (Some run) = graph_after_run closed run

-- the graph that the updates of the window lead to, if it has any group or update
abbrev pub came_to : WindowValue → Option Graph
came_to w = graph_after_current (closed_graph w.base w.later) w.current

-- the graph is what the window came to, or the window has nothing
abbrev pub StandsOn : WindowValue → Graph → Type 0
StandsOn w g = IfSome (came_to w) (λ h. g ≡ h)

-- the graph after the first i groups, which is the one before group i
abbrev pub graph_of : WindowValue → ℕ → Graph
graph_of w i = graph_at (unwrap_or w.base empty_graph) w.later i

-- What is true of each window. Its groups are few, and their timestamps can be counted. Where it has a group it has a graph
-- to begin with, and all its graphs are simple.
pub record IsSound (w : WindowValue) : Type 0 where
  pub some_shard : 1 ≤ w.shards
  pub early : w.first ≤ 10 ^ 19
  pub few : length w.later ≤ most_groups
  pub begun : 0 < length w.later → IsSome w.base
  pub base : IfSome w.base IsSimple
  pub later : AllByRecursion IsSimple w.later

abbrev pub update_count : Option RunValue → ℕ
update_count None = 0
update_count (Some run) = run.len

-- there is room for an update: in the open group, or else for one group more
abbrev pub HasRoom : WindowValue → Option (Option RunValue) → Type 0
HasRoom w None = length w.later < most_groups
HasRoom w (Some run) = update_count run < most_updates

pub record CanPush (w : WindowValue) (g : Graph) : Type 0 where
  pub stands : StandsOn w g
  pub room : HasRoom w w.current

-- the window with one group more, and none that is open
abbrev pub with_group : WindowValue → Graph → Graph → WindowValue
with_group w before after = record { first = w.first; shards = w.shards; base = Some (unwrap_or w.base before); later = w.later ++ after ∷ []; current = None }

abbrev pub with_current : WindowValue → Option (Option RunValue) → WindowValue
with_current w current = record { first = w.first; shards = w.shards; base = w.base; later = w.later; current = current }

-- the graph before the open group
abbrev pub graph_before : Option RunValue → Graph → Graph
graph_before None g = g
graph_before (Some run) g = run.before

-- the updates of a group after one more, which led from one graph to another
abbrev pub with_update : Option RunValue → Graph → Graph → RunValue
with_update run before after = record { len = update_count run + 1; before = graph_before run before; after = after }

-- the window after an update that led from one graph to another
abbrev pub pushed : WindowValue → Option (Option RunValue) → Graph → Graph → WindowValue
pushed w None before after = with_group w before after
pushed w (Some run) before after = with_current w (Some (Some (with_update run before after)))

-- the window after its group was ended on a graph
abbrev pub ended : WindowValue → Option (Option RunValue) → Graph → WindowValue
ended w None g = w
ended w (Some run) g = with_group w (graph_before run g) g

abbrev pub open_count : Option (Option RunValue) → Option ℕ
open_count None = None
open_count (Some run) = Some (update_count run)

-- how runs and windows are stored as values: as the tuples of their parts

abbrev pub run_code : Coded RunValue
run_code =
    code_by (ℕ × (Graph × Graph)) (coded× coded_ℕ (coded× graph_code graph_code)) (λ r. (r.len, (r.before, r.after)))
    (λ p. record { len = p.0; before = p.1.0; after = p.1.1 }) (λ _. refl)

abbrev pub window_code : Coded WindowValue
window_code =
    code_by (ℕ × (ℕ × (Option Graph × (List Graph × Option (Option RunValue)))))
    (coded× coded_ℕ (coded× coded_ℕ (coded× (coded_option graph_code) (coded× (coded_list graph_code) (coded_option (coded_option run_code))))))
    (λ w. (w.first, (w.shards, (w.base, (w.later, w.current)))))
    (λ p. record { first = p.0; shards = p.1.0; base = p.1.1.0; later = p.1.1.1.0; current = p.1.1.1.1 })
    (λ _. refl)
