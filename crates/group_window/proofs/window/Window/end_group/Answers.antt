use Rattle.std.proofs.Common.{List, ◌∷◌, [], ◌++◌, subst, sym, ap, ◌∙◌}
use Rattle.std.specs.Option.{option_map}
use Rattle.graph_types.specs.meaning.Simple.{IsSimple}
use Rattle.group_window.specs.calls.Differences.{IsDifference}
use Rattle.group_window.specs.declared.groups.Group.{Group}
use Rattle.group_window.specs.declared.groups.OpenGroup.{OpenGroup}
use Rattle.group_window.specs.meaning.Windows.{StandsOn, WindowValue, graph_before}
use Rattle.group_window.specs.storage.Window.{IsAfter}
use Rattle.group_window.proofs.GroupsInOrder.{IsAfter-graph_before, IsKept-push, room-open, same_group, stands-push}
use Rattle.group_window.proofs.window.Window.end_group.Goals as goal

pub invariant_of-self-2 : goal.invariant_of-self-2
invariant_of-self-2 c =
    let s = c.self.inside in
    let groups = s.groups.items in
    let g = c.args.graph.now in
    let d = c.in_ok-difference.difference in
    let open_group = c.in-Some.group in
    let taken = c.in-Some-take.group in
    let group : Group = record { before = c.into_before-before.result; after = c.of-after.result; difference = d } in
    let same = same_group s.current open_group taken c.in-Some.is (sym c.take.ensures.value ∙ c.in-Some-take.is) in
    let before = c.into_before-before.ensures.before ∙ ap (λ (o : OpenGroup). graph_before o.run g) (sym same) in
    IsKept-push s.first s.shards groups c.push_reserved.new.self.items s.current c.take.new.self group c.self.invariant
    (ap (option_map (λ (o : OpenGroup). o.run)) c.take.ensures.after)
    (c.push_reserved.ensures.items ∙ ap (λ (gs : List Group). gs ++ group ∷ []) c.reserve.ensures.items)
    (subst (λ b. IsDifference s.shards d b c.of-after.result.value) (sym before) (subst (IsDifference s.shards d (graph_before open_group.run g)) (sym c.of-after.ensures) c.in_ok-difference.ensures))
    (subst (IsAfter groups) (sym before) (IsAfter-graph_before groups s.current open_group g c.in-Some.is c.self.invariant.began (subst (λ (w : WindowValue). StandsOn w g) (sym c.self.view_is) c.requires.stands)))
    (room-open s.current open_group _ c.in-Some.is c.self.invariant.room)
    (record { before = c.into_before-before.ensures.simple; after = subst IsSimple (sym c.of-after.ensures) c.simple.ensures })

pub returns-clause-stands : goal.returns-clause-stands
returns-clause-stands c =
    let s = c.self.inside in
    let group : Group = record { before = c.into_before-before.result; after = c.of-after.result; difference = c.in_ok-difference.difference } in
    stands-push s.groups.items c.push_reserved.new.self.items c.take.new.self group c.args.graph.now
    (c.push_reserved.ensures.items ∙ ap (λ (gs : List Group). gs ++ group ∷ []) c.reserve.ensures.items)
    (ap (option_map (λ (o : OpenGroup). o.run)) c.take.ensures.after)
    c.of-after.ensures
