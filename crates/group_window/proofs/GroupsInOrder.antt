-- Groups that follow one another.
use Rattle.std.proofs.Common.{◌≡◌, ◌<◌, ◌≤◌, ◌+◌, ℕ, zero, suc, List, [], ◌∷◌, ◌++◌, length, length-append, get_or, Option, None, Some, IfSome, IsSome, unwrap_or, refl, sym, subst, arith, add-one}
use Rattle.std.specs.List.{AllByRecursion}
use Rattle.std.specs.Option.{option_map}
use Rattle.std.proofs.lemmas.List.{length-map}
use Rattle.graph_types.specs.meaning.Graph.{Graph, empty_graph}
use Rattle.graph_types.specs.meaning.Simple.{IsSimple}
use Rattle.mining_model.specs.meaning.History.{graph_at}
use Rattle.shared_lemmas.proofs.Claims.{all-append, all-map}
use Rattle.group_window.specs.calls.Differences.{IsDifference}
use Rattle.group_window.specs.declared.groups.Group.{Group}
use Rattle.group_window.specs.declared.groups.OpenGroup.{OpenGroup}
use Rattle.group_window.specs.meaning.Windows.{IsSound, RunValue, StandsOn, WindowValue, closed_graph, graph_after_current, graph_after_run, graph_before, last_or, most_groups, pushed, with_group}
use Rattle.group_window.specs.storage.Window.{AreChained, FollowsFrom, HasSimpleGraphs, IsAfter, IsKept, IsTold, first_graph, graphs_after}

-- one group more

follows-push : (g : Graph) (groups : List Group) (group : Group) → FollowsFrom g groups → group.before.value ≡ last_or g (graphs_after groups) → FollowsFrom g (groups ++ group ∷ [])
follows-push g [] group follows e = (e, tt)
follows-push g (x ∷ xs) group follows e = (follows.0, follows-push x.after.value xs group follows.1 e)

chained-push : (groups : List Group) (group : Group) → AreChained groups → IsAfter groups group.before.value → AreChained (groups ++ group ∷ [])
chained-push [] group chained after = tt
chained-push (x ∷ xs) group chained after = follows-push x.after.value xs group chained after

not_open : (current : Option OpenGroup) → option_map (λ open_group. open_group.run) current ≡ None → (P : OpenGroup → Type 0) → IfSome current P
not_open None none P = tt
not_open (Some open_group) none P = cc

-- the group follows the others, and none is open
pub IsKept-push : (first shards : ℕ) (groups more : List Group) (current next : Option OpenGroup) (group : Group) → IsKept first shards groups current → option_map (λ open_group. open_group.run) next ≡ None
    → more ≡ groups ++ group ∷ [] → IsTold shards group → IsAfter groups group.before.value → length groups < most_groups → HasSimpleGraphs group → IsKept first shards more next
IsKept-push first shards groups more current next group kept none is told after room simple = record {
  early = kept.early;
  some_shard = kept.some_shard;
  few = subst (λ (gs : List Group). length gs ≤ most_groups) (sym is) (let len = length-append groups (group ∷ []) in omega (arith, len, room));
  room = not_open next none _;
  simple = subst (AllByRecursion HasSimpleGraphs) (sym is) (all-append HasSimpleGraphs groups (group ∷ []) kept.simple (simple, tt));
  told = subst (AllByRecursion (IsTold shards)) (sym is) (all-append (IsTold shards) groups (group ∷ []) kept.told (told, tt));
  chained = subst AreChained (sym is) (chained-push groups group kept.chained after);
  began = not_open next none _;
}

-- the graph after the last group is the one that it led to

last-push : (g : Graph) (groups : List Group) (group : Group) → last_or g (graphs_after (groups ++ group ∷ [])) ≡ group.after.value
last-push g [] group = refl
last-push g (x ∷ xs) group = last-push x.after.value xs group

IsAfter-push : (groups : List Group) (group : Group) → IsAfter (groups ++ group ∷ []) group.after.value
IsAfter-push [] group = refl
IsAfter-push (x ∷ xs) group = sym (last-push x.after.value xs group)

pub stands-push : (groups more : List Group) (next : Option OpenGroup) (group : Group) (g : Graph) → more ≡ groups ++ group ∷ [] → option_map (λ open_group. open_group.run) next ≡ None → group.after.value ≡ g
    → IfSome (graph_after_current (closed_graph (first_graph more) (graphs_after more)) (option_map (λ open_group. open_group.run) next)) (λ h. g ≡ h)
stands-push groups more next group g is none after =
    subst (λ (run : Option (Option RunValue)). IfSome (graph_after_current (closed_graph (first_graph more) (graphs_after more)) run) (λ h. g ≡ h)) (sym none)
    (subst (λ gs. IsAfter gs g) (sym is) (subst (IsAfter (groups ++ group ∷ [])) after (IsAfter-push groups group)))

-- the graph that a window stands on

last_or-push : (g : Graph) (later : List Graph) (after : Graph) → last_or g (later ++ after ∷ []) ≡ after
last_or-push g [] after = refl
last_or-push g (x ∷ later) after = last_or-push x later after

StandsOn-with_group : (w : WindowValue) (before after : Graph) → StandsOn (with_group w before after) after
StandsOn-with_group w before after = sym (last_or-push (unwrap_or w.base before) w.later after)

pub StandsOn-pushed : (w : WindowValue) (current : Option (Option RunValue)) (before after : Graph) → StandsOn (pushed w current before after) after
StandsOn-pushed w None before after = StandsOn-with_group w before after
StandsOn-pushed w (Some run) before after = refl

pub same_group : (current : Option OpenGroup) (one other : OpenGroup) → current ≡ Some one → current ≡ Some other → one ≡ other
same_group current one other e f = cc

-- where none is open, it is the one after the groups
pub IsAfter-closed : (w : WindowValue) (g : Graph) → w.current ≡ None → StandsOn w g → IfSome (closed_graph w.base w.later) (λ h. g ≡ h)
IsAfter-closed w g none stands = subst (λ (current : Option (Option RunValue)). IfSome (graph_after_current (closed_graph w.base w.later) current) (λ h. g ≡ h)) none stands

-- the graph before the open group is the one after the groups
pub IsAfter-graph_before : (groups : List Group) (current : Option OpenGroup) (open_group : OpenGroup) (g : Graph) → current ≡ Some open_group
    → IfSome current (λ o. IfSome o.run (λ run. IsAfter groups run.before))
    → IfSome (graph_after_current (closed_graph (first_graph groups) (graphs_after groups)) (option_map (λ o. o.run) current)) (λ h. g ≡ h) → IsAfter groups (graph_before open_group.run g)
IsAfter-graph_before groups None open_group g is began stands = cc
IsAfter-graph_before groups (Some found) open_group g is began stands =
    let same : found ≡ open_group = cc in subst (λ (o : OpenGroup). IsAfter groups (graph_before o.run g)) same (at found.run began stands)
  where
    at : (run : Option RunValue) → IfSome run (λ r. IsAfter groups r.before) → IfSome (graph_after_run (closed_graph (first_graph groups) (graphs_after groups)) run) (λ h. g ≡ h) → IsAfter groups (graph_before run g)
    at None b s = s
    at (Some run) b s = b

-- the group at a place

told_from : (shards : ℕ) (g : Graph) (groups : List Group) (i : ℕ) (default : Group) → AllByRecursion (IsTold shards) groups → FollowsFrom g groups → i < length groups
    → IsDifference shards (get_or groups i default).difference (graph_at g (graphs_after groups) i) (graph_at g (graphs_after groups) (suc i))
told_from shards g [] i default told follows below = absurd (omega arith)
told_from shards g (x ∷ xs) zero default told follows below = subst (λ before. IsDifference shards x.difference before x.after.value) follows.0 told.0
told_from shards g (x ∷ xs) (suc i) default told follows below = told_from shards x.after.value xs i default told.1 follows.1 (omega arith)

pub told-at : (first shards : ℕ) (groups : List Group) (current : Option OpenGroup) (i : ℕ) (group : Group) → IsKept first shards groups current → i < length (graphs_after groups) → group ≡ get_or groups i group
    → IsDifference shards group.difference (graph_at (unwrap_or (first_graph groups) empty_graph) (graphs_after groups) i) (graph_at (unwrap_or (first_graph groups) empty_graph) (graphs_after groups) (i + 1))
told-at first shards [] current i group kept below is = absurd (omega (arith, below))
told-at first shards (x ∷ xs) current i group kept below is =
    let g = x.before.value in
    let later = graphs_after (x ∷ xs) in
    subst (λ j. IsDifference shards group.difference (graph_at g later i) (graph_at g later j)) (sym (add-one i))
    (subst (λ y. IsDifference shards y.difference (graph_at g later i) (graph_at g later (suc i))) (sym is) (told_from shards g (x ∷ xs) i group kept.told (refl, kept.chained) (subst (λ n. i < n) (length-map (x ∷ xs) (λ y. y.after.value)) below)))

-- what is true of each window

begun-at : (groups : List Group) → 0 < length (graphs_after groups) → IsSome (first_graph groups)
begun-at [] some = absurd (omega (arith, some))
begun-at (group ∷ groups) some = refl

simple-first : (groups : List Group) → AllByRecursion HasSimpleGraphs groups → IfSome (first_graph groups) IsSimple
simple-first [] simple = tt
simple-first (group ∷ groups) simple = simple.0.before

pub IsSound-kept : (w : WindowValue) (groups : List Group) (current : Option OpenGroup) → IsKept w.first w.shards groups current → w.base ≡ first_graph groups → w.later ≡ graphs_after groups → IsSound w
IsSound-kept w groups current kept base later = record {
  some_shard = kept.some_shard;
  early = kept.early;
  few = subst (λ gs. length gs ≤ most_groups) (sym later) (subst (λ n. n ≤ most_groups) (sym (length-map groups (λ group. group.after.value))) kept.few);
  begun = subst (λ gs. 0 < length gs → IsSome w.base) (sym later) (subst (λ b. 0 < length (graphs_after groups) → IsSome b) (sym base) (begun-at groups));
  base = subst (λ b. IfSome b IsSimple) (sym base) (simple-first groups kept.simple);
  later = subst (AllByRecursion IsSimple) (sym later) (all-map HasSimpleGraphs IsSimple (λ group. group.after.value) (λ group simple. simple.after) groups kept.simple);
}

-- a group that is open has room
pub room-open : (current : Option OpenGroup) (open_group : OpenGroup) (n : ℕ) → current ≡ Some open_group → IfSome current (λ _. n < most_groups) → n < most_groups
room-open None open_group n is room = cc
room-open (Some found) open_group n is room = room
