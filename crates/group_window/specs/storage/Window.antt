-- A window, as it is kept.
use Rattle.std.specs.Prelude.{◌≡◌, ◌≤◌, ◌<◌, ◌^◌, ℕ, List, [], ◌∷◌, map, length, Option, None, Some, IfSome}
use Rattle.std.specs.List.{AllByRecursion}
use Rattle.graph_types.specs.meaning.Graph.{Graph}
use Rattle.graph_types.specs.meaning.Simple.{IsSimple}
use Rattle.group_window.specs.declared.groups.Group.{Group}
use Rattle.group_window.specs.declared.groups.OpenGroup.{OpenGroup}
use Rattle.group_window.specs.calls.Differences.{IsDifference}
use Rattle.group_window.specs.meaning.Windows.{closed_graph, most_groups}

-- what is kept of a group is what differs between its graphs
abbrev pub IsTold : ℕ → Group → Type 0
IsTold shards group = IsDifference shards group.difference group.before.value group.after.value

-- the graphs before and after a group are simple
pub record HasSimpleGraphs (group : Group) : Type 0 where
  pub before : IsSimple group.before.value
  pub after : IsSimple group.after.value

-- each group begins where the one before it ended
abbrev pub FollowsFrom : Graph → List Group → Type 0
FollowsFrom g [] = Unit {0}
FollowsFrom g (group ∷ groups) = (group.before.value ≡ g) × FollowsFrom group.after.value groups

abbrev pub AreChained : List Group → Type 0
AreChained [] = Unit {0}
AreChained (group ∷ groups) = FollowsFrom group.after.value groups

abbrev pub first_graph : List Group → Option Graph
first_graph [] = None
first_graph (group ∷ groups) = Some group.before.value

-- the graph after each group
abbrev pub graphs_after : List Group → List Graph
graphs_after groups = map (λ group. group.after.value) groups

-- the graph is the one after the groups, if there are any
abbrev pub IsAfter : List Group → Graph → Type 0
IsAfter groups g = IfSome (closed_graph (first_graph groups) (graphs_after groups)) (λ h. g ≡ h)

-- what is true of each window
pub record IsKept (first shards : ℕ) (groups : List Group) (current : Option OpenGroup) : Type 0 where
  pub early : first ≤ 10 ^ 19
  pub some_shard : 1 ≤ shards
  -- there is room for a group that is open
  pub few : length groups ≤ most_groups
  pub room : IfSome current (λ _. length groups < most_groups)
  pub simple : AllByRecursion HasSimpleGraphs groups
  pub told : AllByRecursion (IsTold shards) groups
  pub chained : AreChained groups
  -- the open group began where the last group ended
  pub began : IfSome current (λ open_group. IfSome open_group.run (λ run. IsAfter groups run.before))
