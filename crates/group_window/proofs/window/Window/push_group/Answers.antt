use Rattle.std.proofs.Common.{◌≡◌, ◌<◌, IfSome, List, ◌∷◌, [], ◌++◌, length, subst, sym, ap, ◌∙◌}
use Rattle.std.proofs.lemmas.List.{length-map}
use Rattle.graph_types.specs.meaning.Simple.{IsSimple}
use Rattle.group_window.specs.calls.Differences.{IsDifference}
use Rattle.group_window.specs.declared.groups.Group.{Group}
use Rattle.group_window.specs.meaning.Windows.{WindowValue, closed_graph, most_groups}
use Rattle.group_window.specs.storage.Window.{IsAfter}
use Rattle.group_window.proofs.GroupsInOrder.{IsAfter-closed, IsKept-push}
use Rattle.group_window.proofs.window.Window.push_group.Goals as goal

pub invariant_of-self-2 : goal.invariant_of-self-2
invariant_of-self-2 c =
    let s = c.self.inside in
    let groups = s.groups.items in
    let g = c.args.graph.now in
    let d = c.in_ok-difference.difference in
    let group : Group = record { before = c.of-before.result; after = c.of-after.result; difference = d } in
    let stands = subst (λ (w : WindowValue). IfSome (closed_graph w.base w.later) (λ h. g ≡ h)) (sym c.self.view_is) (IsAfter-closed c.args.self.now g c.requires.closed c.requires.stands) in
    IsKept-push s.first s.shards groups c.push_reserved.new.self.items s.current s.current group c.self.invariant
    (ap (λ (w : WindowValue). w.current) c.self.view_is ∙ c.requires.closed)
    (c.push_reserved.ensures.items ∙ ap (λ (gs : List Group). gs ++ group ∷ []) c.reserve.ensures.items)
    (subst (λ b. IsDifference s.shards d b c.of-after.result.value) (sym c.of-before.ensures) (subst (IsDifference s.shards d g) (sym (c.of-after.ensures ∙ c.in_ok-apply.ensures.ok)) c.in_ok-difference.ensures))
    (subst (IsAfter groups) (sym c.of-before.ensures) stands)
    (subst (λ n. n < most_groups) (length-map groups (λ group. group.after.value)) (subst (λ (w : WindowValue). length w.later < most_groups) (sym c.self.view_is) c.requires.room))
    (record { before = subst IsSimple (sym c.of-before.ensures) c.simple.ensures; after = subst IsSimple (sym c.of-after.ensures) c.simple-2.ensures })
