use Rattle.std.proofs.Common.{◌≡◌, ℕ, List, All, map, sym, ap, subst, arith}
use Rattle.steal_pool.specs.meaning.Pool.{PoolId, ThiefValue}
use Rattle.steal_pool.specs.meaning.Tasks.{IsSharedOut}
use Rattle.steal_pool.specs.storage.Books.{BooksValue}
use Rattle.steal_pool.proofs.Openings.{each_thief}
use Rattle.steal_pool.proofs.Settlings.{shares_out}
use Rattle.steal_pool.proofs.settling.settle.Goals as goal

pub returns-clause-shared_out : goal.returns-clause-shared_out
returns-clause-shared_out g c = let opened = c.open-books.ensures.books in
    subst (λ (lists : List (List ℕ)). IsSharedOut c.args.feed.fed lists (map g.T.Numbered.number c.drain_queue.new.left)) (sym c.in_ok-taken.ensures)
    (shares_out g.T.Numbered.number c.args.feed c.args.thieves c.open-books.result c.add_all.new.books c.drain_deque.new.self c.drain_queue.new.self c.new-left.result c.drain_deque.new.left c.drain_queue.new.left (ap (λ (b : BooksValue). b.fed) opened) (ap (λ (b : BooksValue). b.from_deque) opened) (ap (λ (b : BooksValue). b.from_queue) opened) (ap (λ (b : BooksValue). b.put_back) opened) c.new-left.ensures c.add_all.ensures c.in_ok-drain_deque.ensures.moved c.in_ok-drain_deque.ensures.all c.in_ok-drain_queue.ensures.moved c.in_ok-drain_queue.ensures.all)

pub add_all-requires : goal.add_all-requires
add_all-requires g c =
    subst (λ (pool : PoolId). All (λ (t : ThiefValue). t.pool ≡ pool) c.args.thieves) (sym (ap (λ (b : BooksValue). b.pool) c.open-books.ensures.books))
    (each_thief _ _ _ c.requires).0

pub drain_deque-requires : goal.drain_deque-requires
drain_deque-requires g c = omega (arith, (each_thief c.args.feed.thieves c.args.feed.pool c.args.thieves c.requires).1, c.add_all.ensures.parts, c.open-books.ensures.parts)

pub drain_queue-requires : goal.drain_queue-requires
drain_queue-requires g c =
    omega (
      arith,
      (each_thief c.args.feed.thieves c.args.feed.pool c.args.thieves c.requires).1,
      c.add_all.ensures.parts,
      c.open-books.ensures.parts,
      ap (λ (b : BooksValue). b.parts) c.in_ok-drain_deque.ensures.moved.same,
    )
