use Rattle.std.proofs.Common.{◌+◌, map as mapped, sym, ap, subst, ◌∙◌, arith}
use Rattle.shard_state.specs.calls.Together.{FitTogether, with_part}
use Rattle.shard_tables.proofs.Asking.{TellWindow-taken, next-fits}
use Rattle.shard_tables.proofs.questions.take.Goals as goal

pub apply_parts-requires : goal.apply_parts-requires
apply_parts-requires c =
    subst (λ parts. FitTogether c.args.shards.now parts (c.args.taken + 1)) (sym (c.as_slice.ensures ∙ c.parts_of.ensures))
    (next-fits c.args.window.now c.args.taken c.args.shards.now c.requires (omega arith) (sym c.if-not-are_pruned_below.ensures))

pub returns : goal.returns
returns c =
    TellWindow-taken c.args.window.now c.args.taken c.args.shards.now c.requires (omega arith) (sym c.if-not-are_pruned_below.ensures) _
    (c.in_ok-apply_parts.ensures ∙ ap (λ parts. mapped (with_part parts (c.args.taken + 1)) c.args.shards.now) (c.as_slice.ensures ∙ c.parts_of.ensures))
