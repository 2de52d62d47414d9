use Rattle.std.proofs.Common.{◌≡◌, map as mapped, subst, sym, ap, ◌∙◌, arith}
use Rattle.std.specs.List.{range_with_len}
use Rattle.graph_types.specs.meaning.Graph.{empty_graph}
use Rattle.shard_state.specs.calls.Sharing.{KeepGraph}
use Rattle.shard_state.specs.meaning.Shards.{empty_shard}
use Rattle.shard_state.proofs.TellingOn.{KeepGraph-empty, empty-next}
use Rattle.shard_state.proofs.sharing.make_shards.Goals as goal

pub loop-number-preserved : goal.loop-number-preserved
loop-number-preserved c = empty-next c.args.count c.loop-number.number c.loop-number.shards.items _ c.empty.result c.in_ok-push.ensures.items c.empty.ensures c.loop-number.invariant

pub returns-clause-empty : goal.returns-clause-empty
returns-clause-empty c =
    let end : c.loop-number.number ≡ c.args.count = omega arith in
    c.loop-number.invariant ∙ ap (λ n. mapped (λ number. empty_shard number c.args.count) (range_with_len 0 n)) end

pub returns-clause-keep : goal.returns-clause-keep
returns-clause-keep c = λ at some.
    let end : c.loop-number.number ≡ c.args.count = omega arith in
    subst (λ shards. KeepGraph shards at empty_graph)
    (sym (c.loop-number.invariant ∙ ap (λ n. mapped (λ number. empty_shard number c.args.count) (range_with_len 0 n)) end)) (KeepGraph-empty c.args.count at some)
