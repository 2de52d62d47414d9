-- That what an event leads to is shown as what its move leads to.
use Rattle.std.proofs.Common.{◌≡◌, ◌<◌, ◌≤◌, ◌+◌, ◌-◌, ℕ, true, false, cond, eqb, List, [], ◌∷◌, length, take, drop, Option, None, Some, unwrap_or, IfSome, IsSome, refl, sym, ap, subst, ◌∙◌, arith}
use Rattle.std.specs.List.{list_any}
use Rattle.std.proofs.lemmas.Bool.{eqb-true, false≢true, lt-ltb}
use Rattle.std.proofs.lemmas.List.{length-drop, take_all}
use Rattle.graph_types.specs.meaning.Graph.{Graph, empty_graph}
use Rattle.mining_model.specs.meaning.History.{graph_at}
use Rattle.group_window.specs.meaning.Windows.{IsSound, WindowValue, graph_of as window_graph}
use Rattle.shard_events.specs.meaning.Machine.{HasPart, part_of_shard}
use Rattle.update_rules.specs.declared.shards.Part.{Part}
use Rattle.update_rules.specs.meaning.Parts.{changes_between, part_of, parts_between}
use Rattle.rehearsal.specs.meaning.MachineState.{MachineState, Stage, Waiting, Live, Explored, Finished}
use Rattle.rehearsal.specs.meaning.Shown.{shown, took_in}
use Rattle.rehearsal.specs.meaning.Soundness.{graphs_from}
use Rattle.rehearsal.specs.meaning.Table.{are_for, group_parts, is_explored, is_finished, is_live, is_waiting, next_parts, no_parts}
use Rattle.rehearsal.proofs.PartRows.{IsMade, first-later, first-least, first-made, list-some, part-among}

-- a stage that passes a test is that one
pub waiting-is : (x : Stage) → is_waiting x ≡ true → x ≡ Waiting
waiting-is Waiting is = refl
waiting-is Live is = absurd (false≢true is)
waiting-is Explored is = absurd (false≢true is)
waiting-is Finished is = absurd (false≢true is)

pub live-is : (x : Stage) → is_live x ≡ true → x ≡ Live
live-is Waiting is = absurd (false≢true is)
live-is Live is = refl
live-is Explored is = absurd (false≢true is)
live-is Finished is = absurd (false≢true is)

pub explored-is : (x : Stage) → is_explored x ≡ true → x ≡ Explored
explored-is Waiting is = absurd (false≢true is)
explored-is Live is = absurd (false≢true is)
explored-is Explored is = refl
explored-is Finished is = absurd (false≢true is)

pub finished-is : (x : Stage) → is_finished x ≡ true → x ≡ Finished
finished-is Waiting is = absurd (false≢true is)
finished-is Live is = absurd (false≢true is)
finished-is Explored is = absurd (false≢true is)
finished-is Finished is = refl

base-from : (base : Option Graph) (g : Graph) → IsSome base → IfSome base (λ before. before ≡ g) → unwrap_or base empty_graph ≡ g
base-from None g some is = cc
base-from (Some before) g some is = is

-- the first of some parts
pub first-for : (parts : List Part) (s : ℕ) → are_for parts s ≡ true → (part : Part) × (rest : List Part) × (parts ≡ part ∷ rest) × (part.shard ≡ s)
first-for [] s is = absurd (false≢true is)
first-for (part ∷ rest) s is = (part, rest, refl, eqb-true part.shard s is)

pub none-left : {A : Type 0} (k : ℕ) (xs : List A) → drop k xs ≡ [] → length xs ≤ k
none-left k xs is = let len = ap length is in omega (arith, length-drop k xs, len)

pub some-left : {A : Type 0} (k : ℕ) (xs : List A) (x : A) (rest : List A) → drop k xs ≡ x ∷ rest → k < length xs
some-left k xs x rest is = let len = ap length is in omega (arith, length-drop k xs, len)

pub no-parts : (parts : List Part) → no_parts parts ≡ true → parts ≡ []
no-parts [] is = refl
no-parts (part ∷ parts) is = absurd (false≢true is)

module _ (w : WindowValue) (g : Graph) (window : IsSound w) (base : IfSome w.base (λ before. before ≡ g)) where
  -- the graphs are those of the window where it has a group
  pub same-graph : (i : ℕ) → 0 < length w.later → window_graph w i ≡ graph_at g w.later i
  same-graph i some = ap (λ h. graph_at h w.later i) (base-from w.base g (window.begun some) base)

  module _ (m : MachineState) (parted : w.shards ≡ length m.shards) (more : m.stamped < length w.later) where
    some-group : 0 < length w.later
    some-group = omega (arith, more)

    parts-are : group_parts w m ≡ parts_between (window_graph w m.stamped) (window_graph w (m.stamped + 1)) w.shards
    parts-are = ap (λ b. cond b (parts_between (window_graph w m.stamped) (window_graph w (m.stamped + 1)) w.shards) []) (lt-ltb m.stamped (length w.later) more)

    -- what a group changes in a shard
    pub part-is : (s : ℕ) → part_of w.shards (changes_between (window_graph w m.stamped) (window_graph w (m.stamped + 1))) s ≡ part_of_shard (graphs_from w g) (shown w m) s (w.first + m.stamped + 1)
    part-is s =
        let one : m.stamped ≡ w.first + m.stamped + 1 - 1 - w.first = omega arith in
        let two : m.stamped + 1 ≡ w.first + m.stamped + 1 - w.first = omega arith in
        ap (λ n. part_of n (changes_between (window_graph w m.stamped) (window_graph w (m.stamped + 1))) s) parted
        ∙ (λ i. part_of (length m.shards) (changes_between ((same-graph m.stamped some-group ∙ ap (graph_at g w.later) one) i) ((same-graph (m.stamped + 1) some-group ∙ ap (graph_at g w.later) two) i)) s)

    -- a shard that has some changes took them in once all parts are
    pub took-all : (s : ℕ) → s < length m.shards → HasPart (graphs_from w g) (shown w m) s (w.first + m.stamped + 1) → length (group_parts w m) ≤ m.parts → took_in w m s ≡ true
    took-all s within has all =
        ap (λ parts. list_any (λ (p : Part). eqb p.shard s) parts) (take_all m.parts (group_parts w m) all ∙ parts-are)
        ∙ part-among (window_graph w m.stamped) (window_graph w (m.stamped + 1)) w.shards s (subst (λ n. s < n) (sym parted) within) (λ none. has (sym (ap (λ (p : Part). p.changes) (part-is s)) ∙ none))

    module _ (part : Part) (rest : List Part) (left : next_parts w m ≡ part ∷ rest) where
      left-are : drop m.parts (parts_between (window_graph w m.stamped) (window_graph w (m.stamped + 1)) w.shards) ≡ part ∷ rest
      left-are = ap (drop m.parts) (sym parts-are) ∙ left

      made : IsMade w.shards (changes_between (window_graph w m.stamped) (window_graph w (m.stamped + 1))) part
      made = first-made (window_graph w m.stamped) (window_graph w (m.stamped + 1)) w.shards m.parts part rest left-are

      -- the first part that is left is that of its shard
      pub first-part : part ≡ part_of_shard (graphs_from w g) (shown w m) part.shard (w.first + m.stamped + 1)
      first-part = made.same ∙ part-is part.shard

      pub first-within : part.shard < length m.shards
      first-within = subst (λ n. part.shard < n) parted made.within

      pub first-has : HasPart (graphs_from w g) (shown w m) part.shard (w.first + m.stamped + 1)
      first-has = λ none. list-some part.changes made.some (ap (λ (p : Part). p.changes) first-part ∙ none)

      -- no more parts were taken in than there are shards before its own
      pub first-least-parts : m.parts ≤ part.shard
      first-least-parts = first-least (window_graph w m.stamped) (window_graph w (m.stamped + 1)) w.shards m.parts part rest left-are

      -- its shard took in none yet
      pub first-unput : took_in w m part.shard ≡ false
      first-unput =
          ap (λ parts. list_any (λ (p : Part). eqb p.shard part.shard) (take m.parts parts)) parts-are
          ∙ first-later (window_graph w m.stamped) (window_graph w (m.stamped + 1)) w.shards m.parts part rest left-are
