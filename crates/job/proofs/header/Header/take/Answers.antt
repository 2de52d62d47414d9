use Rattle.std.proofs.Common.{Some, refl, sym, ap}
use Rattle.graph_types.specs.meaning.Graph.{empty_graph}
use Rattle.cond_eval.specs.meaning.Patterns.{pattern_of}
use Rattle.job.specs.meaning.Judging.{streaming, header_judgement}
use Rattle.job.proofs.header.Header.take.Goals as goal

pub returns-in-Ok : goal.returns-in-Ok
returns-in-Ok c =
    let said = rw c.in-Ok-Ready.field-0-is at c.in-Ok-Ready.ensures in (
      streaming (pattern_of c.in-Ok-Ready.program) c.in-Ok-Ready.names empty_graph,
      ap (header_judgement c.args.number) said,
      record { mines = sym (ap (λ p. Some (pattern_of p)) c.in-Ok.ensures.ok); knows = refl; draws = sym c.new-in-Ok.ensures; counts = refl },
    )
