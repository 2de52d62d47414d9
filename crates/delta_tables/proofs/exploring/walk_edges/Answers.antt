use Rattle.std.proofs.Common.{◌<◌, Ok, refl, sym, ap, subst, ◌∙◌, arith}
use Rattle.seeded_search.specs.calls.Turning.{Turns}
use Rattle.seeded_search.specs.declared.stop.Turn.{Turn}
use Rattle.seeded_search.specs.meaning.Notes.{note_of_set, target_of}
use Rattle.seeded_search.proofs.Turning.{seen}
use Rattle.edge_expand.specs.meaning.Edges.{edge_elements}
use Rattle.edge_expand.specs.storage.Walks.{IsWalk, left_of, reads_left}
use Rattle.delta_tables.specs.meaning.Finds.{find_note}
use Rattle.delta_tables.proofs.exploring.walk_edges.Goals as goal

pub turn-requires-clause-walk : goal.turn-requires-clause-walk
turn-requires-clause-walk c =
    let so_far = c.loop-walk.invariant in
    seen (λ b a _. IsWalk (target_of c.args.program.now) b a c.loop-walk.walk) c.args.before.now _ c.args.after.now _ 0 0 (sym so_far.sees_before) (sym so_far.sees_after) refl so_far.walk

pub loop-walk-smaller : goal.loop-walk-smaller
loop-walk-smaller c =
    let target = target_of c.args.program.now in
    let so_far = c.loop-walk.invariant in
    let fewer = c.in_ok-turn.ensures.fewer (ap Ok c.in-More.is) in
    seen (λ b a _. reads_left target b a c.turn.new.self < reads_left target b a c.loop-walk.walk) _ c.args.before.now _ c.args.after.now 0 0 so_far.sees_before so_far.sees_after refl (omega (arith, fewer))

pub loop-walk-preserved : goal.loop-walk-preserved
loop-walk-preserved c =
    let p = c.args.program.now in
    let target = target_of p in
    let before = c.loop-walk.view.before in
    let after = c.loop-walk.view.after in
    let so_far = c.loop-walk.invariant in
    let walk = c.loop-walk.walk in
    let last = c.turn.new.self in
    let turns = subst (λ (t : Turn). Turns (note_of_set find_note p before after edge_elements) (IsWalk target before after last) c.loop-walk.catch.room (left_of target before after walk) (left_of target before after last) c.loop-walk.catch.finds.items c.turn.new.catch.finds.items (Ok t)) c.in-More.is c.in_ok-turn.ensures.turns in
    record {
      sees_before = c.in_ok-turn.ensures.before ∙ so_far.sees_before;
      sees_after = c.in_ok-turn.ensures.after ∙ so_far.sees_after;
      walk = seen (λ b a _. IsWalk target b a last) _ c.args.before.now _ c.args.after.now 0 0 so_far.sees_before so_far.sees_after refl turns.stands;
    }
