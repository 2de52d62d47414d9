use Rattle.std.proofs.Common.{◌++◌, ap, ◌∙◌, arith}
use Rattle.std.specs.Prelude.{decimal}
use Rattle.std.proofs.lemmas.Fmt.{length-decimal-le}
use Rattle.record_text.proofs.Digits.{digits_fit, digits_short}
use Rattle.record_text.proofs.line_end.LineEnd.prepend_number.Goals as goal

pub write_digits-self-inside-requires : goal.write_digits-self-inside-requires
write_digits-self-inside-requires c = (
  digits_fit 20 c.self.inside.start (decimal c.args.n) c.self.inside.bytes c.args.self.now (length-decimal-le 20 c.args.n (omega arith) (omega arith) (omega arith))
      c.self.view_is (omega (arith, c.self.invariant, c.self.told)) (omega (arith, c.requires, c.self.told)),
  omega (arith, c.self.invariant, c.self.told),
)

pub returns-clause-short : goal.returns-clause-short
returns-clause-short c =
    digits_short 20 (decimal c.args.n) c.args.self.now _ (length-decimal-le 20 c.args.n (omega arith) (omega arith) (omega arith))
    (c.write_digits-self-inside.ensures.written ∙ ap (λ held. decimal c.args.n ++ held) c.self.view_is)
