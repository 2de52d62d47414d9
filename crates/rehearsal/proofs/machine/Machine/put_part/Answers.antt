use Rattle.std.specs.Result.{OnErr}
use Rattle.std.proofs.Common.{Result, Ok, Err, ◌≡◌, ◌≤◌, List, [], ◌∷◌, length, drop, get_or, sym, ap, subst, ◌∙◌, arith}
use Rattle.std.proofs.lemmas.List.{get_or_default}
use Rattle.shard_state.specs.meaning.Shards.{ShardValue, empty_shard}
use Rattle.shard_state.specs.calls.Fitting.{Fits}
use Rattle.update_rules.specs.declared.shards.Part.{Part}
use Rattle.rehearsal.specs.meaning.MachineState.{state_of}
use Rattle.rehearsal.specs.meaning.Table.{next_parts}
use Rattle.rehearsal.proofs.Moving.{first-for}
use Rattle.rehearsal.proofs.Putting.{few-parts, fits, for-it, there}
use Rattle.rehearsal.proofs.SameVec.{same-item}
use Rattle.rehearsal.proofs.machine.Machine.put_part.Goals as goal

-- a list with an item begins with it
begins : (parts : List Part) (part : Part) → 1 ≤ length parts → part ≡ get_or parts 0 part → parts ≡ part ∷ drop 1 parts
begins [] part some is = absurd (omega (arith, some))
begins (first ∷ parts) part some is = ap (λ p. p ∷ parts) (sym is)

on-err : {T E : Type 0} (r : Result T E) (P : Type 0) → P → OnErr r P
on-err (Ok x) P holds = tt
on-err (Err e) P holds = holds

pub unreachable-requires : goal.unreachable-requires
unreachable-requires c =
    let sound = c.requires.sound.1 in
    let first = first-for (next_parts c.args.window.now (state_of c.args.self.now)) c.args.s (for-it c.args.window.now c.requires.sound.0 c.sound.ensures (state_of c.args.self.now) sound c.args.s c.requires.may) in
    let len = ap length (c.next_parts.ensures ∙ first.2) in
    let few = c.in_default.len_below in
    omega (arith, len, few)

pub index_mut-requires : goal.index_mut-requires
index_mut-requires c =
    let left = sym c.next_parts.ensures ∙ begins c.next_parts.result.now c.part-item.result c.in-len1-up.len_at_least c.part-item.is in
    let within = there c.args.window.now c.requires.sound.0 c.sound.ensures (state_of c.args.self.now) c.requires.sound.1 c.args.s c.requires.may c.part-item.result _ left in
    omega (arith, within, c.args.self.now.shards.ok.0)

pub apply-requires : goal.apply-requires
apply-requires c =
    let left = sym c.next_parts.ensures ∙ begins c.next_parts.result.now c.part-item.result c.in-len1-up.len_at_least c.part-item.is in
    let within = there c.args.window.now c.requires.sound.0 c.sound.ensures (state_of c.args.self.now) c.requires.sound.1 c.args.s c.requires.may c.part-item.result _ left in
    subst (λ (shard : ShardValue). Fits shard c.part-item.result c.stamp_after-at.result) (sym (c.index_mut.ensures.value ∙ get_or_default c.args.self.now.shards.items c.args.s _ (empty_shard 0 1) within))
    (fits c.args.window.now c.requires.sound.0 c.sound.ensures (state_of c.args.self.now) c.requires.sound.1 c.args.s c.requires.may c.part-item.result _ left c.stamp_after-at.result c.stamp_after-at.ensures)

pub overflow_add-self-2 : goal.overflow_add-self-2
overflow_add-self-2 c =
    let left = sym c.next_parts.ensures ∙ begins c.next_parts.result.now c.part-item.result c.in-len1-up.len_at_least c.part-item.is in
    let few = few-parts c.args.window.now c.requires.sound.0 c.sound.ensures (state_of c.args.self.now) c.requires.sound.1 c.args.s c.requires.may c.part-item.result _ left in
    omega (arith, few, c.ranges.s)

pub returns-in_err-apply-clause-err : goal.returns-in_err-apply-clause-err
returns-in_err-apply-clause-err c =
    let old = c.args.self.now in
    let same = same-item old.shards c.args.s c.apply.new.self c.index_mut.result.now (c.in_err-apply.ensures.err ∙ c.index_mut.ensures.value) in
    on-err c.from_residual.result _
    (λ i. record { shards = same i; tasks = old.tasks; ingest = old.ingest; watch = old.watch; parts = old.parts; stamped = old.stamped; known = old.known; front = old.front; seen = old.seen })
