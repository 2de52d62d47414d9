-- Thief by thief, and then task by task, the books come to say what became of each task.
use Rattle.std.proofs.Common.{◌≡◌, ℕ, ◌==◌, cond, List, [], ◌∷◌, ◌++◌, map, length, All, sum_by, refl, sym, ap, subst, ◌∙◌, append_assoc, arith}
use Rattle.std.proofs.Math.Seq.{take-append_seam}
use Rattle.std.proofs.lemmas.List.Elements.{All-take}
use Rattle.std.proofs.lemmas.List.Sums.{sum_by-append, sum_by-cons, sum_by_push}
use Rattle.steal_pool.specs.meaning.Pool.{PoolId, FeedValue, ThiefValue}
use Rattle.steal_pool.specs.meaning.Tasks.{IsSharedOut}
use Rattle.steal_pool.specs.declared.balance.Account.{Account}
use Rattle.steal_pool.specs.declared.thief.Look.TheVariants.{Empty}
use Rattle.steal_pool.specs.storage.Balance.{all_parts}
use Rattle.steal_pool.specs.storage.Books.{BooksValue}
use Rattle.steal_pool.specs.calls.Settling.{AddsUp, with_thief, WeighsSame, TakesBack, PopsQueue, MovesTo, MovesFromDeque, MovesFromQueue}
use Rattle.steal_pool.proofs.Balances.{sum_by-map}

-- what holds of all of a list holds of its first items
All-front : {X : Type 0} (P : X → Type 0) (xs ys : List X) → All P (xs ++ ys) → All P xs
All-front P xs ys all = subst (All P) (take-append_seam xs ys) (All-take P (length xs) (xs ++ ys) all)

-- no thief is back yet
pub none_back : (books : BooksValue) → TakesBack [] books books
none_back books = record { same_pool = refl; same_fed = refl; parts = omega arith; adds_up = λ weight. omega arith }

-- one thief more is back
pub one_more_back : (back : List ThiefValue) (thief : ThiefValue) (first books : BooksValue)
    → AddsUp thief → TakesBack back first books → TakesBack (thief ∷ back) first (with_thief books thief)
one_more_back back thief first books adds_up before = record {
  same_pool = before.same_pool;
  same_fed = before.same_fed;
  parts = (let parts = before.parts in omega arith);
  adds_up = λ weight. omega (
    arith,
    before.adds_up weight,
    adds_up weight,
    sum_by-cons (λ (t : ThiefValue). sum_by weight t.taken) thief back,
    sum_by-append weight books.from_deque thief.from_deque,
    sum_by-append weight books.from_queue thief.from_queue,
    sum_by-append weight books.put_back thief.put_back,
  );
}

-- the last of the thieves that are still out is back
pub back_by_one : (out out' : List ThiefValue) (first books books' : BooksValue) (thief : ThiefValue) (thieves : List ThiefValue)
    → All (λ (t : ThiefValue). t.pool ≡ first.pool) out → (back : List ThiefValue) × (thieves ≡ out ++ back) × TakesBack back first books
    → out ≡ out' ++ thief ∷ [] → books' ≡ with_thief books thief → AddsUp thief
    → All (λ (t : ThiefValue). t.pool ≡ first.pool) out' × ((back : List ThiefValue) × (thieves ≡ out' ++ back) × TakesBack back first books')
back_by_one out out' first books books' thief thieves each before last books_are adds_up = (
  All-front (λ (t : ThiefValue). t.pool ≡ first.pool) out' (thief ∷ []) (subst (All (λ (t : ThiefValue). t.pool ≡ first.pool)) last each),
  (
    thief ∷ before.0,
    before.1 ∙ (ap (λ l. l ++ before.0) last ∙ append_assoc out' (thief ∷ []) before.0),
    subst (TakesBack (thief ∷ before.0) first) (sym books_are) (one_more_back before.0 thief first books adds_up before.2),
  ),
)

-- what contracts see of the books, by the accounts of the deque and of the queue
abbrev books_of : PoolId → Account → Account → BooksValue
books_of pool deque queue = record { pool = pool; parts = deque.parts; fed = deque.put; from_deque = deque.taken; from_queue = queue.taken; put_back = queue.put }

module _ {T : Type 0} (number : T → ℕ) where
  -- the queue was found empty
  pub pops_none : (pool : PoolId) (deque queue queue' : Account) (old : BooksValue) → books_of pool deque queue ≡ old → queue.parts ≡ deque.parts → queue' ≡ queue
      → (queue.parts ≡ all_parts → (weight : ℕ → ℕ) → sum_by weight queue.put ≡ sum_by weight queue.taken) → PopsQueue number old Empty (books_of pool deque queue')
  pops_none pool deque queue queue' old is parts same empty =
      subst (λ (x : BooksValue). PopsQueue number x Empty (books_of pool deque queue')) is (ap (books_of pool deque) same, λ every. empty (parts ∙ every))

  -- one task more goes to what is left
  pub one_more_moved : (first taken : List ℕ) (left left' : List T) (t : T)
      → MovesTo number first left taken left' → MovesTo number first left (taken ++ number t ∷ []) (left' ++ t ∷ [])
  one_more_moved first taken left left' t before weight =
      omega (arith, before weight, sum_by_push weight taken (number t), sum_by_push (λ u. weight (number u)) left' t)

  -- Where all passes are back, and the deque and the queue are empty, each task was taken or is left.
  pub shares_out : (feed : FeedValue) (thieves : List ThiefValue) (opened back popped last : BooksValue) (none found left : List T)
      → opened.fed ≡ feed.fed → opened.from_deque ≡ [] → opened.from_queue ≡ [] → opened.put_back ≡ [] → none ≡ []
      → TakesBack thieves opened back → MovesFromDeque number back none popped found → WeighsSame popped.fed popped.from_deque
      → MovesFromQueue number popped found last left → WeighsSame last.put_back last.from_queue
      → IsSharedOut feed.fed (map (λ (t : ThiefValue). t.taken) thieves) (map number left)
  shares_out feed thieves opened back popped last none found left fed no_deque no_queue no_back none_yet taken from_deque all_fed from_queue all_back n =
      let weight : ℕ → ℕ = λ m. cond (m == n) 1 0 in
      let weigh : List ℕ → ℕ = sum_by weight in
      omega (
        arith,
        ap weigh fed,
        ap weigh taken.same_fed,
        ap (λ (b : BooksValue). weigh b.fed) from_deque.same,
        ap weigh no_deque,
        ap weigh no_queue,
        ap weigh no_back,
        ap (sum_by (λ t. weight (number t))) none_yet,
        taken.adds_up weight,
        from_deque.moved weight,
        all_fed weight,
        ap (λ (b : BooksValue). weigh b.from_queue) from_deque.same,
        ap (λ (b : BooksValue). weigh b.put_back) from_deque.same,
        from_queue.moved weight,
        ap (λ (b : BooksValue). weigh b.put_back) from_queue.same,
        all_back weight,
        sum_by-map (λ (t : ThiefValue). t.taken) weigh thieves,
        sum_by-map number weight left,
      )
