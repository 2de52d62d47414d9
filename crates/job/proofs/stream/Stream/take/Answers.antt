use Rattle.std.proofs.Common.{sym, box_value}
use Rattle.cond_eval.specs.meaning.Patterns.{pattern_of}
use Rattle.job.proofs.NextStages.{item-leads}
use Rattle.job.proofs.stream.Stream.take.Goals as goal

pub returns-in-Ok-batch_after-clause-judged : goal.returns-in-Ok-batch_after-clause-judged
returns-in-Ok-batch_after-clause-judged c = λ stage at.
    item-leads c.args.number stage (pattern_of (box_value c.args.self.now.program)) c.args.self.now.names c.read_line.new.names
    c.args.self.now.graph c.args.self.now.batch c.in-Ok-batch_after.batch c.args.text.now c.in-Ok.item at
    c.in-Ok.ensures (sym c.in-Ok-batch_after.ensures)
