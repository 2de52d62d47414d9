use Rattle.std.proofs.Common.{rules, arith}
use Rattle.crossbeam_deque.specs.Handles.{worker_deque, worker_view}
use Rattle.crossbeam_deque.specs.Injected.{injector_view}
use Rattle.steal_pool.proofs.Balances.{takes, finds}
use Rattle.steal_pool.proofs.Settlings.{pops_none}
use Rattle.steal_pool.proofs.books.Books.pop_queue.Goals as goal
use Rattle.steal_pool.proofs.books.Books.pop_queue.Goals.{in-Success, in-Empty, in-Retry}

pub steal_as-requires-clause-rule : goal.steal_as-requires-clause-rule
steal_as-requires-clause-rule g c = (
  takes g.T.Numbered.number _ _ 1 (let some_part = c.self.invariant.0.some_part in let same = c.self.invariant.0.same_parts in omega arith),
  finds g.T.Numbered.number _ _,
)

pub returns : goal.returns
returns g c =
    let books = c.self.inside in
    elim c.match-steal_as.branch [
      | in-Success w ↦ search rules
      | in-Empty w ↦
          rw w.result-is
          (pops_none g.T.Numbered.number (record { deque = (worker_deque books.deque).0; queue = books.shared.value.queue.queue.web }) (worker_view books.deque) (injector_view books.queue_pass) (injector_view c.steal_as.new.pass) c.args.self.now c.self.view_is c.self.invariant.0.same_parts w.in-Empty.ensures.rule.0 w.in-Empty.ensures.rule.1)
      | in-Retry w ↦ search rules
    ]
