-- A steal is what its last round does, as the rounds before it only looked.
use Rattle.std.proofs.Common.{◌≡◌, ℕ, ◌≤◌, true, sym, ap, subst, ◌∙◌, inl, inr, ⊎_elim, arith}
use Rattle.graph_types.specs.calls.Counts.{HasRisen}
use Rattle.steal_pool.specs.meaning.Pool.{ThiefValue}
use Rattle.steal_pool.specs.calls.Looks.{KeepsCounts, with_counts, with_fed, with_returned}
use Rattle.steal_pool.specs.calls.Steals.{FindsBothEmpty, OnlyLooks, TakesTask, Steals}
use Rattle.steal_pool.specs.declared.taken.Taken.{Taken}
use Rattle.steal_pool.specs.declared.taken.Taken.TheVariants.{Task, Shut, Ended}

risen_since : (first then' last : ℕ) → first ≤ then' → HasRisen then' last → HasRisen first last
risen_since first then' last grew up = omega arith

finds_after : (a b c : ThiefValue) → KeepsCounts a b → FindsBothEmpty b c → FindsBothEmpty a c
finds_after a b c kept found = record { deque = risen_since _ _ _ kept.deques found.deque; queue = risen_since _ _ _ kept.queues found.queue }

module _ {T : Type 0} (number : T → ℕ) where
  takes_after : (n : ℕ) (a b c : ThiefValue) → OnlyLooks a b → KeepsCounts a b → TakesTask n b c → TakesTask n a c
  takes_after n a b c looked kept took =
      ⊎_elim (λ fed. inl (subst (λ (x : ThiefValue). c ≡ with_counts c (with_fed n x)) looked fed))
      (λ returned. inr (subst (λ (x : ThiefValue). c ≡ with_counts c (with_returned n x)) looked returned.0, risen_since _ _ _ kept.deques returned.1)) took

  pub steals_after : (a b : ThiefValue) (taken : Taken T) (c : ThiefValue) → OnlyLooks a b → KeepsCounts a b → Steals number b taken c → Steals number a taken c
  steals_after a b (Task t) c looked kept took = takes_after (number t) a b c looked kept took
  steals_after a b Shut c looked kept told = (
    (
      sym (ap (λ (x : ThiefValue). x.knows_shut) looked) ∙ told.0.0,
      subst (λ (x : ThiefValue). c ≡ with_counts c (record x { knows_shut = true })) looked told.0.1,
    ),
    finds_after a b c kept told.1,
  )
  steals_after a b Ended c looked kept ended = (
    subst (λ (x : ThiefValue). c ≡ with_counts c x) looked ended.0,
    sym (ap (λ (x : ThiefValue). x.knows_shut) looked) ∙ ended.1,
    finds_after a b c kept ended.2,
  )
