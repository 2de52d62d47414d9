-- That the shard that the ingest holds takes in its part.
use Rattle.std.proofs.Common.{◌≡◌, ◌<◌, ◌≤◌, ◌+◌, ℕ, true, false, cond, List, ◌∷◌, length, sym, ap, subst, ◌∙◌, arith}
use Rattle.graph_types.specs.meaning.Graph.{Graph}
use Rattle.group_window.specs.meaning.Windows.{IsSound, WindowValue}
use Rattle.shard_events.specs.meaning.Machine.{part_of_shard, was_put}
use Rattle.shard_state.specs.calls.Fitting.{Fits}
use Rattle.shard_state.specs.meaning.Joining.{shard_at}
use Rattle.shard_state.specs.meaning.Telling.{Tells, part_at}
use Rattle.shard_state.proofs.Told.{Fits-part}
use Rattle.update_rules.specs.declared.shards.Part.{Part}
use Rattle.rehearsal.specs.meaning.MachineState.{MachineState}
use Rattle.rehearsal.specs.meaning.Shown.{shown, took_in}
use Rattle.rehearsal.specs.meaning.Soundness.{IsSoundState, graphs_from}
use Rattle.rehearsal.specs.meaning.Table.{are_for, holds, next_parts}
use Rattle.rehearsal.proofs.Leading.{group-left, put-within}
use Rattle.rehearsal.proofs.Moving.{first-for, first-least-parts, first-part, first-unput}
use Rattle.rehearsal.proofs.Showing.{holds-it, put-shown}

module _ (w : WindowValue) (g : Graph) (window : IsSound w) (m : MachineState) (sound : IsSoundState w g m) (s : ℕ) (is : holds m.ingest s ≡ true) where
  -- a part is left, and it is for the shard
  pub for-it : are_for (next_parts w m) s ≡ true
  for-it = sound.next s (holds-it m.ingest s is)

  module _ (part : Part) (rest : List Part) (left : next_parts w m ≡ part ∷ rest) where
    for-shard : part.shard ≡ s
    for-shard = let first = first-for (next_parts w m) s for-it in let same : first.0 ≡ part = cc in sym (ap (λ (p : Part). p.shard) same) ∙ first.3

    pub there : s < length m.shards
    there = put-within w g window m sound s is part rest left for-shard

    more : m.stamped < length w.later
    more = group-left w g window m sound s is part rest left for-shard

    pub group-more : m.stamped + 1 ≤ length w.later
    group-more = let less = more in omega (arith, less)

    pub few-parts : m.parts ≤ s
    few-parts = subst (λ k. m.parts ≤ k) for-shard (first-least-parts w g window sound.base m sound.parted more part rest left)

    pub fits : (at : ℕ) → at ≡ w.first + (m.stamped + 1) → Fits (shard_at m.shards s) part at
    fits at at-is =
        let graphs = graphs_from w g in
        let rule = sound.ruled in
        let shard = shard_at m.shards s in
        let n = w.first + m.stamped in
        let numbered = rule.machine.numbered s there in
        let unput : was_put (shown w m) s ≡ false = put-shown w m s there ∙ subst (λ k. took_in w m k ≡ false) for-shard (first-unput w g window sound.base m sound.parted more part rest left) in
        let tells : Tells graphs n shard = subst (λ b. Tells graphs (cond b (n + 1) n) shard) unput (rule.told s there) in
        let low = rule.floors s there in
        let front = rule.ordered.known in
        let known = rule.ordered.stamped in
        let same : part ≡ part_at graphs shard.shards shard.number (n + 1) =
        first-part w g window sound.base m sound.parted more part rest left
        ∙ ap (λ k. part_of_shard graphs (shown w m) k (n + 1)) for-shard
        ∙ (λ i. part_at graphs (sym numbered.1 i) (sym numbered.0 i) (n + 1)) in
        let place : n + 1 ≡ at = omega (arith, at-is) in
        subst (Fits shard part) place (subst (λ p. Fits shard p (n + 1)) (sym same) (Fits-part graphs n shard tells (omega (arith, low, front, known))))
