use Rattle.std.proofs.Common.{ap, rules, arith}
use Rattle.steal_pool.specs.meaning.Pool.{FeedValue}
use Rattle.steal_pool.proofs.Balances as balances
use Rattle.steal_pool.proofs.ShutWords as words
use Rattle.steal_pool.specs.declared.balance.Account.{Account}
use Rattle.steal_pool.proofs.opening.add_thief.Goals as goal

pub another-deque_pass-requires : goal.another-deque_pass-requires
another-deque_pass-requires g c =
    balances.forks g.T.Numbered.number _ _
    (let thieves = ap (λ (f : FeedValue). f.thieves) c.feed.view_is in
    let some_part = c.feed.invariant.0.some_part in
    omega arith)

pub another-queue_pass-requires-clause-rule : goal.another-queue_pass-requires-clause-rule
another-queue_pass-requires-clause-rule g c =
    balances.forks g.T.Numbered.number _ _
    (let thieves = ap (λ (f : FeedValue). f.thieves) c.feed.view_is in
    let parts = ap (λ (a : Account). a.parts) c.feed.invariant.0.only_parts in
    let some_part = c.feed.invariant.0.some_part in
    omega arith)

pub split_pass-shut_pass-requires : goal.split_pass-shut_pass-requires
split_pass-shut_pass-requires g c = (search rules, (search rules, (search rules, words.forks _ _)))
