use Rattle.std.proofs.Common.{◌++◌, ap, ◌∙◌, arith}
use Rattle.std.specs.Prelude.{decimal}
use Rattle.std.proofs.lemmas.Fmt.{length-decimal-le}
use Rattle.record_text.proofs.Digits.{digits_fit, digits_short}
use Rattle.record_text.proofs.line_end.LineEnd.prepend_id.Goals as goal

pub write_digits-self-inside-requires : goal.write_digits-self-inside-requires
write_digits-self-inside-requires c = (
  digits_fit 10 c.self.inside.start (decimal c.from.result) c.self.inside.bytes c.args.self.now (length-decimal-le 10 c.from.result (omega arith) (omega arith) (omega arith))
      c.self.view_is (omega (arith, c.self.invariant, c.self.told)) (omega (arith, c.requires, c.self.told)),
  omega (arith, c.self.invariant, c.self.told),
)

pub returns-clause-short : goal.returns-clause-short
returns-clause-short c =
    digits_short 10 (decimal c.from.result) c.args.self.now _ (length-decimal-le 10 c.from.result (omega arith) (omega arith) (omega arith))
    (c.write_digits-self-inside.ensures.written ∙ ap (λ held. decimal c.from.result ++ held) c.self.view_is)
