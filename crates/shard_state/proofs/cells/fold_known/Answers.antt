use Rattle.std.proofs.Common.{◌≡◌, ◌<◌, ◌≤◌, true, false, IfSome, refl, ap, subst, sym, ◌∙◌, arith}
use Rattle.std.specs.Ordering.{is_le, nat_cmp}
use Rattle.std.proofs.lemmas.Bool.Decides.{nat_tests}
use Rattle.version_cell.specs.meaning.Cell.{HasNothing}
use Rattle.shard_state.specs.storage.Cells.{floor_known}
use Rattle.shard_state.specs.storage.KeyedCells.{cells_of}
use Rattle.shard_state.proofs.CellSteps.{FoldsCell-absent, FoldsCell-written, get-at_key, has-written, same-written}
use Rattle.shard_state.proofs.cells.fold_known.Goals as goal

pub returns-in_default-clause-folds : goal.returns-in_default-clause-folds
returns-in_default-clause-folds c = λ _.
    FoldsCell-absent (cells_of c.args.class c.args.items.now) c.args.v c.args.t
    (get-at_key c.args.class c.args.items.now c.args.v c.key.result c.requires c.key.ensures ∙ sym c.in_default.ensures.value)

pub returns-clause-folds : goal.returns-clause-folds
returns-clause-folds c = λ _.
    FoldsCell-written c.args.class c.args.items.now c.args.v c.key.result c.requires c.key.ensures c.in-Some.cell.now c.fold_to.new.self (sym c.in-Some.ensures.value) c.args.t c.fold_to.ensures.folded

pub returns-then-le-clause-folds : goal.returns-then-le-clause-folds
returns-then-le-clause-folds c = λ less.
    let lower : c.in-Some.cell.now.floor < c.args.t = subst (λ o. floor_known o < c.args.t) (get-at_key c.args.class c.args.items.now c.args.v c.key.result c.requires c.key.ensures ∙ sym c.in-Some.ensures.value) less in
    let tested : is_le (nat_cmp c.args.t c.in-Some.cell.now.floor) ≡ true = ap (λ n. is_le (nat_cmp c.args.t n)) (sym c.floor.ensures) ∙ sym c.le.ensures ∙ c.if-le.true in
    let more : c.args.t ≤ c.in-Some.cell.now.floor = grind (arith, nat_tests) in
    absurd (omega (arith, lower, more))

pub returns-then-le-clause-rests : goal.returns-then-le-clause-rests
returns-then-le-clause-rests c = λ _.
    same-written c.args.class c.args.items.now c.args.v c.key.result c.requires c.key.ensures c.in-Some.cell.now c.in-Some.cell.now (sym c.in-Some.ensures.value) refl

pub returns-clause-rests : goal.returns-clause-rests
returns-clause-rests c = λ most.
    let upper : c.args.t ≤ c.in-Some.cell.now.floor = subst (λ o. c.args.t ≤ floor_known o) (get-at_key c.args.class c.args.items.now c.args.v c.key.result c.requires c.key.ensures ∙ sym c.in-Some.ensures.value) most in
    let tested : is_le (nat_cmp c.args.t c.in-Some.cell.now.floor) ≡ false = ap (λ n. is_le (nat_cmp c.args.t n)) (sym c.floor.ensures) ∙ sym c.le.ensures ∙ c.if-le.false in
    let less : c.in-Some.cell.now.floor < c.args.t = grind (arith, nat_tests) in
    absurd (omega (arith, upper, less))

pub returns-clause-emptied : goal.returns-clause-emptied
returns-clause-emptied c = λ empty.
    let tested : is_le (nat_cmp c.args.t c.in-Some.cell.now.floor) ≡ false = ap (λ n. is_le (nat_cmp c.args.t n)) (sym c.floor.ensures) ∙ sym c.le.ensures ∙ c.if-le.false in
    let less : c.in-Some.cell.now.floor < c.args.t = grind (arith, nat_tests) in (
      subst (λ o. floor_known o < c.args.t) (sym (get-at_key c.args.class c.args.items.now c.args.v c.key.result c.requires c.key.ensures ∙ sym c.in-Some.ensures.value)) less,
      subst (λ o. IfSome o HasNothing)
          (sym (has-written c.args.class c.args.items.now c.args.v c.key.result c.requires c.key.ensures c.fold_to.new.self))
          (c.is_empty.ensures.0 empty),
    )
