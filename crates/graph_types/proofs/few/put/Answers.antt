use Rattle.std.proofs.Common.{length, set, ap, sym, ◌∙◌}
use Rattle.std.specs.List.{insert}
use Rattle.std.proofs.lemmas.List.{length-set}
use Rattle.std.proofs.lemmas.Result.{err_from_is_err_and}
use Rattle.graph_types.proofs.FewPairs.{set-at_place, insert-at_place, find-absent, place-in_list, place-in_range, refilled}
use Rattle.graph_types.proofs.few.put.Goals as goal

pub write-requires : goal.write-requires
write-requires g c =
    let sought = rw c.deref.ensures.value at c.in-Ok.ensures in
    rw (c.as_mut_slice.ensures.value, sought.0) (place-in_range c.args.to c.args.few.now.items sought.1)

pub returns-in-Ok-clause-ok : goal.returns-in-Ok-clause-ok
returns-in-Ok-clause-ok g c =
    let sought = rw c.deref.ensures.value at c.in-Ok.ensures in
    let few = c.args.few.now.items in
    let wrote = c.write.ensures ∙ ap (λ ws. set ws c.in-Ok.at (c.args.to, c.args.value)) c.as_mut_slice.ensures.value in
    refilled _ few c.write.new.few (c.args.few.now.ok.0 ∙ sym (ap length wrote ∙ length-set few c.in-Ok.at (c.args.to, c.args.value)))
    ∙ wrote
    ∙ ap (λ i. set few i (c.args.to, c.args.value)) sought.0
    ∙ set-at_place c.args.to few sought.1.0 c.args.value sought.1.1

pub returns-in_ok-insert-in-Err-clause-ok : goal.returns-in_ok-insert-in-Err-clause-ok
returns-in_ok-insert-in-Err-clause-ok g c =
    let sought = rw c.deref.ensures.value at c.in-Err.ensures in
    rw c.in_ok-insert-in-Err.ensures.items (ap (λ i. insert c.args.few.now.items i (c.args.to, c.args.value)) sought.0 ∙ insert-at_place c.args.to c.args.few.now.items c.args.value sought.1)

pub returns-in_err-insert-in-Err-clause-was_new : goal.returns-in_err-insert-in-Err-clause-was_new
returns-in_err-insert-in-Err-clause-was_new g c =
    let sought = rw c.deref.ensures.value at c.in-Err.ensures in
    let p = err_from_is_err_and c.from_residual.result c.from_residual.ensures.1 in
    rw p.1 (find-absent c.args.to c.args.few.now.items c.requires sought.1)

pub insert-requires : goal.insert-requires
insert-requires g c =
    let sought = rw c.deref.ensures.value at c.in-Err.ensures in
    rw (sought.0, c.args.few.now.ok.0) (place-in_list c.args.to c.args.few.now.items)
