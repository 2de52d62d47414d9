use Rattle.std.proofs.Common.{◌≡◌, ◌+◌, ◌<◌, ◌^◌, length, sym, ap, ◌∙◌, subst, arith}
use Rattle.std.proofs.lemmas.List.{length-map}
use Rattle.record_tally.specs.calls.Counting.{HasRoom, counts_after}
use Rattle.record_tally.specs.storage.Remembered.{counts_of, remembered}
use Rattle.record_tally.proofs.Bytes.{HasRoom-of, counts-append}
use Rattle.record_tally.proofs.tally.TallySink.write.Goals as goal

pub after-self-inside-requires : goal.after-self-inside-requires
after-self-inside-requires c =
    let text = remembered c.self.inside.bytes.items in
    let n = length c.args.bytes.now in
    let long : length text ≡ length c.self.inside.bytes.items = length-map c.self.inside.bytes.items (λ s. s.value) in
    let few : length text + n < 2 ^ 64 = omega (arith, long, c.in-Ok.ensures.count, c.in-Ok.ensures.fits) in
    subst (λ counts. HasRoom counts n) (sym c.self.invariant) (HasRoom-of text n few)

pub invariant_of-self-2 : goal.invariant_of-self-2
invariant_of-self-2 c =
    let text = remembered c.self.inside.bytes.items in
    c.after-self-inside.ensures
    ∙ ap (λ counts. counts_after counts c.args.bytes.now) c.self.invariant
    ∙ counts-append text c.args.bytes.now
    ∙ ap counts_of (sym c.in-Ok.ensures.ok)
