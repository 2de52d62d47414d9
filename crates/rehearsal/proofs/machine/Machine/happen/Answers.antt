use Rattle.cond_eval.specs.meaning.Patterns.{pattern_of}
use Rattle.rehearsal.proofs.machine.Machine.happen.Goals as goal

pub returns-in-Begin-clause-found : goal.returns-in-Begin-clause-found
returns-in-Begin-clause-found c = c.begin.ensures.found (pattern_of c.args.program.now) c.args.most c.requires.sound.1.found

pub returns-in-Finish-clause-found : goal.returns-in-Finish-clause-found
returns-in-Finish-clause-found c = c.finish.ensures.found (pattern_of c.args.program.now) c.args.most c.requires.sound.1.found
