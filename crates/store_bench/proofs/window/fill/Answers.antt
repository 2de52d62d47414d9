use Rattle.std.proofs.Common.{◌≡◌, ◌+◌, ◌-◌, subst, arith}
use Rattle.store_bench.specs.calls.Filling.{IsFilled}
use Rattle.store_bench.proofs.Filling.{CanPush-filled, IsFilled-begun}
use Rattle.store_bench.proofs.window.fill.Goals as goal

pub loop-number-init : goal.loop-number-init
loop-number-init c =
    let none : 0 ≡ c.args.from - c.args.from = omega arith in
    subst (λ n. IsFilled c.new-window.result c.args.at 8 n c.args.graph.now c.args.graph.now) none (IsFilled-begun c.args.at 8 c.new-window.result c.args.graph.now c.simple.ensures c.new-window.ensures)

pub push-requires : goal.push-requires
push-requires c = CanPush-filled c.loop-number.window c.args.at 8 (c.loop-number.number - c.args.from) c.args.graph.now c.loop-number.graph c.loop-number.invariant (omega arith)

pub loop-number-preserved : goal.loop-number-preserved
loop-number-preserved c =
    let more : c.loop-number.number - c.args.from + 1 ≡ c.loop-number.number + 1 - c.args.from = omega arith in
    subst (λ n. IsFilled c.push.new.window c.args.at 8 n c.args.graph.now c.push.new.graph) more (c.in_ok-push.ensures c.args.at 8 (c.loop-number.number - c.args.from) c.args.graph.now c.loop-number.invariant)

pub returns : goal.returns
returns c =
    let end : c.loop-number.number ≡ c.args.to = omega arith in
    subst (λ n. IsFilled c.loop-number.window c.args.at 8 (n - c.args.from) c.args.graph.now c.loop-number.graph) end c.loop-number.invariant
