use Rattle.std.proofs.Common.{◌∷◌, [], ◌++◌, ap, ◌∙◌, arith}
use Rattle.shard_state.proofs.NotingEach.{noted-floors, noted-touches, noted-versions_in, noting-at, noting-init, noting-ready, noting-room, noting-step}
use Rattle.shard_state.proofs.applying.note_each.Goals as goal

pub loop-change-init : goal.loop-change-init
loop-change-init c = noting-init _ _ _ _ _ c.requires.ready c.requires.ascending c.requires.room

pub note-requires-clause-reserved : goal.note-requires-clause-reserved
note-requires-clause-reserved c = (noting-ready _ _ _ _ _ _ _ _ _ c.loop-change-test.true c.change-item.is c.loop-change.invariant).room

pub note-requires-clause-above : goal.note-requires-clause-above
note-requires-clause-above c = (noting-ready _ _ _ _ _ _ _ _ _ c.loop-change-test.true c.change-item.is c.loop-change.invariant).above

pub note-requires-clause-later : goal.note-requires-clause-later
note-requires-clause-later c = (noting-ready _ _ _ _ _ _ _ _ _ c.loop-change-test.true c.change-item.is c.loop-change.invariant).later

pub push-requires : goal.push-requires
push-requires c = noting-room _ _ _ _ _ _ _ _ _ c.loop-change-test.true c.change-item.is c.loop-change.invariant

pub loop-change-preserved : goal.loop-change-preserved
loop-change-preserved c =
    noting-step _ _ _ _ _ _ _ _ _ _ _ _
    (noting-at _ _ _ _ _ _ _ _ _ c.loop-change-test.true c.change-item.is c.loop-change.invariant) c.note.ensures
    (c.push.ensures.touches ∙ ap (λ v. c.loop-change.touched.touches ++ record { at = c.args.at; vertex = v } ∷ []) c.vertex.ensures) c.push.ensures.room

pub returns-clause-versions : goal.returns-clause-versions
returns-clause-versions c = noted-versions_in _ _ _ _ _ _ _ c.loop-change.change-index (omega arith) c.loop-change.invariant

pub returns-clause-floors : goal.returns-clause-floors
returns-clause-floors c = noted-floors _ _ _ _ _ _ _ c.loop-change.change-index (omega arith) c.loop-change.invariant

pub returns-clause-touches : goal.returns-clause-touches
returns-clause-touches c = noted-touches _ _ _ _ _ _ _ c.loop-change.change-index (omega arith) c.loop-change.invariant
