-- Each step on the deque, or on the queue, keeps its rule.
use Rattle.std.proofs.Common.{◌≡◌, ℕ, zero, suc, ◌+◌, ◌-◌, ◌<◌, List, [], ◌∷◌, ◌++◌, map, set, sum_by, refl, sym, ap, subst, ◌∙◌, ⊎_elim, arith}
use Rattle.std.proofs.lemmas.List.Sums.{sum_by-append, sum_by-cons, sum_by_push}
use mathlib.Core.Option.{some, some-injective, some-ne-none}
use lib.ListN.{get_elem?}
use Rattle.crossbeam_deque.specs.Tasks.{Pushes, Takes, Finds, FindsFew, Forks, Merges}
use Rattle.crossbeam_deque.proofs.Lists.{at_set, at_snoc}
use Rattle.steal_pool.specs.declared.balance.Account.{Account}
use Rattle.steal_pool.specs.storage.Balance.{account, all_parts, opening_account, IdleIsEmpty, IsBalanced}

abbrev IsEmptyWhereIdle : Account → Type 0
IsEmptyWhereIdle a = a.parts ≡ 0 → (a.put ≡ []) × (a.taken ≡ [])

-- a sum over all accounts, once one of them has changed
total-set : (f : Account → ℕ) (accounts : List Account) (seat : ℕ) (a b : Account) → get_elem? accounts seat ≡ some a
    → sum_by f (set accounts seat b) + f a ≡ sum_by f accounts + f b
total-set f [] seat a b at = absurd (some-ne-none a (sym at))
total-set f (x ∷ xs) zero a b at = let same = ap f (some-injective x a at) in omega (arith, sum_by-cons f b xs, sum_by-cons f x xs, same)
total-set f (x ∷ xs) (suc seat) a b at = omega (arith, sum_by-cons f x (set xs seat b), sum_by-cons f x xs, total-set f xs seat a b at)

idle-set : (accounts : List Account) (seat : ℕ) (b : Account) → IsEmptyWhereIdle b → IdleIsEmpty accounts → IdleIsEmpty (set accounts seat b)
idle-set accounts seat b mine others j u at =
    ⊎_elim (λ (here : (j ≡ seat) × (b ≡ u)). subst IsEmptyWhereIdle here.1 mine) (λ elsewhere. others j u elsewhere.1) (at_set accounts seat j b u at)

idle-snoc : (accounts : List Account) (b : Account) → IsEmptyWhereIdle b → IdleIsEmpty accounts → IdleIsEmpty (accounts ++ b ∷ [])
idle-snoc accounts b mine others j u at = ⊎_elim (λ before. others j u before) (λ (last : b ≡ u). subst IsEmptyWhereIdle last mine) (at_snoc accounts b u j at)

pub sum_by-map : {A B : Type 0} (f : A → B) (weight : B → ℕ) (xs : List A) → sum_by weight (map f xs) ≡ sum_by (λ x. weight (f x)) xs
sum_by-map f weight [] = refl
sum_by-map f weight (x ∷ xs) =
    omega (arith, sum_by-cons weight (f x) (map f xs), sum_by-cons (λ y. weight (f y)) x xs, sum_by-map f weight xs)

-- where nobody has a part, nothing was put or taken
total-idle : (f : Account → ℕ) (accounts : List Account) → sum_by (λ a. a.parts) accounts ≡ 0
    → ((seat : ℕ) (a : Account) → get_elem? accounts seat ≡ some a → a.parts ≡ 0 → f a ≡ 0) → sum_by f accounts ≡ 0
total-idle f [] none zeros = refl
total-idle f (a ∷ rest) none zeros =
    let parts = sum_by-cons (λ (b : Account). b.parts) a rest in
    let here : a.parts ≡ 0 = omega arith in
    let there : sum_by (λ b. b.parts) rest ≡ 0 = omega arith in
    omega (arith, sum_by-cons f a rest, zeros 0 a refl here, total-idle f rest there (λ seat b at. zeros (suc seat) b at))

-- what the one that has every part put and took is what all did
total-alone : (f : Account → ℕ) (accounts : List Account) (seat : ℕ) (a : Account) → get_elem? accounts seat ≡ some a
    → sum_by (λ b. b.parts) accounts ≡ a.parts → ((b : Account) → (b.put ≡ []) × (b.taken ≡ []) → f b ≡ 0) → IdleIsEmpty accounts → sum_by f accounts ≡ f a
total-alone f accounts seat a at whole zeros idle =
    let none = account 0 [] [] in
    let others = set accounts seat none in
    let parts = total-set (λ (b : Account). b.parts) accounts seat a none at in
    let no_parts : sum_by (λ b. b.parts) others ≡ 0 = omega arith in
    let idle' : IdleIsEmpty others = idle-set accounts seat none (λ _. (refl, refl)) idle in
    let nothing = total-idle f others no_parts (λ j b at' idle_b. zeros b (idle' j b at' idle_b)) in
    omega (arith, total-set f accounts seat a none at, zeros none (refl, refl), nothing)

module _ {T : Type 0} (number : T → ℕ) where
  pub opens : IsBalanced number [] (opening_account ∷ [])
  opens = record {
    whole = refl;
    adds_up = λ weight. refl;
    idle = idle-snoc [] opening_account (λ none. absurd (omega arith)) (λ j u at. absurd (some-ne-none u (sym at)));
  }

  pub puts : (seat : ℕ) (a : Account) (tasks : List T) → 0 < a.parts
      → Pushes (IsBalanced number) seat a tasks (λ b. b ≡ account a.parts (a.put ++ map number tasks) a.taken)
  puts seat a tasks some_part items accounts held at = let b = account a.parts (a.put ++ map number tasks) a.taken in (
    b,
    record {
      whole = (let parts = total-set (λ (c : Account). c.parts) accounts seat a b at in let was = held.whole in omega arith);
      adds_up = λ weight.
          let put = total-set (λ (c : Account). sum_by weight c.put) accounts seat a b at in
          let taken = total-set (λ (c : Account). sum_by weight c.taken) accounts seat a b at in
          omega (arith, held.adds_up weight, sum_by-append weight a.put (map number tasks), sum_by-map number weight tasks, sum_by-append (λ t. weight (number t)) items tasks);
      idle = idle-set accounts seat b (λ none. absurd (omega arith)) held.idle;
    },
    refl,
  )

  pub takes : (seat : ℕ) (a : Account) (most : ℕ) → 0 < a.parts
      → Takes (IsBalanced number) seat a most (λ tasks b. b ≡ account a.parts a.put (a.taken ++ map number tasks))
  takes seat a most some_part tasks items accounts _ _ held at = let b = account a.parts a.put (a.taken ++ map number tasks) in (
    b,
    record {
      whole = (let parts = total-set (λ (c : Account). c.parts) accounts seat a b at in let was = held.whole in omega arith);
      adds_up = λ weight.
          let put = total-set (λ (c : Account). sum_by weight c.put) accounts seat a b at in
          let taken = total-set (λ (c : Account). sum_by weight c.taken) accounts seat a b at in
          omega (arith, held.adds_up weight, sum_by-append weight a.taken (map number tasks), sum_by-map number weight tasks, sum_by-append (λ t. weight (number t)) tasks items);
      idle = idle-set accounts seat b (λ none. absurd (omega arith)) held.idle;
    },
    refl,
  )

  pub finds : (seat : ℕ) (a : Account) → Finds (IsBalanced number) seat a (a.parts ≡ all_parts → (weight : ℕ → ℕ) → sum_by weight a.put ≡ sum_by weight a.taken)
  finds seat a accounts held at every weight =
      let whole : sum_by (λ b. b.parts) accounts ≡ a.parts = held.whole ∙ sym every in
      let put = total-alone (λ b. sum_by weight b.put) accounts seat a at whole (λ b none. ap (sum_by weight) none.0) held.idle in
      let taken = total-alone (λ b. sum_by weight b.taken) accounts seat a at whole (λ b none. ap (sum_by weight) none.1) held.idle in
      omega (arith, put, taken, held.adds_up weight)

  pub finds_none : (seat : ℕ) (a : Account) (most : ℕ) → most ≡ 0
      → FindsFew (IsBalanced number) most seat a (a.parts ≡ all_parts → (weight : ℕ → ℕ) → sum_by weight a.put ≡ sum_by weight a.taken)
  finds_none seat a most none [] accounts few held at = finds seat a accounts held at
  finds_none seat a most none (t ∷ ts) accounts few held at = absurd (omega arith)

  pub forks : (seat : ℕ) (a : Account) → 1 < a.parts → Forks (IsBalanced number) seat a (account (a.parts - 1) a.put a.taken) (account 1 [] [])
  forks seat a two_parts items accounts held at =
      let left = account (a.parts - 1) a.put a.taken in
      let right = account 1 [] [] in
      let accounts' = set accounts seat left in
      record {
        whole = omega (arith, held.whole, total-set (λ (c : Account). c.parts) accounts seat a left at, sum_by_push (λ (c : Account). c.parts) accounts' right);
        adds_up = λ weight. omega (
          arith,
          held.adds_up weight,
          total-set (λ (c : Account). sum_by weight c.put) accounts seat a left at,
          total-set (λ (c : Account). sum_by weight c.taken) accounts seat a left at,
          sum_by_push (λ (c : Account). sum_by weight c.put) accounts' right,
          sum_by_push (λ (c : Account). sum_by weight c.taken) accounts' right,
        );
        idle = idle-snoc accounts' right (λ none. absurd (omega arith)) (idle-set accounts seat left (λ none. absurd (omega arith)) held.idle);
      }

  pub merges : (seat : ℕ) (a : Account) (other : ℕ) (b : Account) → 0 < a.parts
      → Merges (IsBalanced number) seat a other b (account (a.parts + b.parts) (a.put ++ b.put) (a.taken ++ b.taken)) (account 0 [] [])
  merges seat a other b some_part items accounts held at apart at' =
      let both = account (a.parts + b.parts) (a.put ++ b.put) (a.taken ++ b.taken) in
      let spent = account 0 [] [] in
      let accounts' = set accounts seat both in
      record {
        whole = omega (arith, held.whole, total-set (λ (c : Account). c.parts) accounts seat a both at, total-set (λ (c : Account). c.parts) accounts' other b spent at');
        adds_up = λ weight. omega (
          arith,
          held.adds_up weight,
          total-set (λ (c : Account). sum_by weight c.put) accounts seat a both at,
          total-set (λ (c : Account). sum_by weight c.put) accounts' other b spent at',
          total-set (λ (c : Account). sum_by weight c.taken) accounts seat a both at,
          total-set (λ (c : Account). sum_by weight c.taken) accounts' other b spent at',
          sum_by-append weight a.put b.put,
          sum_by-append weight a.taken b.taken,
        );
        idle = idle-set accounts' other spent (λ _. (refl, refl)) (idle-set accounts seat both (λ none. absurd (omega arith)) held.idle);
      }
