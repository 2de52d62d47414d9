use Rattle.rehearsal_tables.proofs.rehearsing.let_happen.Goals as goal

pub enabled-requires : goal.enabled-requires
enabled-requires c = (c.requires.0, c.requires.1.state)

pub loop-text-init : goal.loop-text-init
loop-text-init c = c.requires

pub step-requires : goal.step-requires
step-requires c = c.loop-text.invariant

pub enabled-requires-in-loop-text : goal.enabled-requires-in-loop-text
enabled-requires-in-loop-text c =
    let sound = c.loop-text.invariant in
    (sound.0, (c.step.ensures.sound sound.0 sound.1).state)

pub loop-text-preserved : goal.loop-text-preserved
loop-text-preserved c =
    let sound = c.loop-text.invariant in
    (sound.0, c.step.ensures.sound sound.0 sound.1)
