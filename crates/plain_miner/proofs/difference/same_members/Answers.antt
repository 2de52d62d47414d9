use Rattle.std.proofs.Common.{◌≢◌, length, slice_get, sym, ap, ◌∙◌, arith, rules}
use Rattle.plain_miner.proofs.SameMembers.{same_members-of, other_members, same_from_places}
use Rattle.plain_miner.proofs.difference.same_members.Goals as goal

pub returns-then-len : goal.returns-then-len
returns-then-len c = sym (other_members _ _ (λ e. c.if-len.true (c.len.ensures.members ∙ ap length e ∙ sym c.len-2.ensures.members)))

pub returns-then-ne : goal.returns-then-ne
returns-then-ne c =
    let apart : c.get.result ≢ c.get-in-loop-i.result = search rules in
    sym (other_members _ _ (λ e. apart (c.get.ensures ∙ ap (λ p. slice_get p c.loop-i.i) e ∙ sym c.get-in-loop-i.ensures)))

pub returns : goal.returns
returns c =
    let p = c.args.piece.now.members in
    let q = c.args.other.now.members in
    sym (same_members-of p q (same_from_places p q (sym c.len.ensures.members ∙ c.if-len.false ∙ c.len-2.ensures.members) (λ k place. c.loop-i.invariant k (omega arith))))
