use Rattle.std.proofs.Common.{◌-◌, sym, ◌∙◌, arith}
use Rattle.record_text.proofs.Members.{HasFrom-more}
use Rattle.record_text.proofs.line.fill_members.Goals as goal

pub loop-place-preserved : goal.loop-place-preserved
loop-place-preserved c = (
  c.loop-place.invariant.0,
  omega (arith, c.loop-place.invariant.1),
  HasFrom-more c.args.piece.now.members c.loop-place.line c.prepend_spaced.new.line (c.loop-place.place - 1) c.loop-place.place c.unwrap.result
      (omega (arith, c.loop-place-test.true)) c.loop-place.invariant.2 (sym c.get.ensures ∙ c.unwrap.ensures) c.prepend_spaced.ensures.text c.prepend_spaced.ensures.short,
)
