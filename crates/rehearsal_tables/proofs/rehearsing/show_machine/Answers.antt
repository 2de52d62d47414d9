use Rattle.cond_eval.specs.meaning.Patterns.{pattern_of}
use Rattle.rehearsal_tables.proofs.rehearsing.show_machine.Goals as goal

pub let_happen-requires : goal.let_happen-requires
let_happen-requires g c =
    let follows = c.in_ok-shards.ensures in
    (follows.0, c.in_ok-machine.ensures.sound (pattern_of c.args.job.now.program) c.args.job.now.most follows.0 follows.1)
