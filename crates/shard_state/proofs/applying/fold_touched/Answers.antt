use Rattle.std.proofs.Common.{subst, sym}
use Rattle.shard_state.specs.storage.KeyedCells.{cells_of}
use Rattle.shard_state.specs.storage.Touched.{IsStored}
use Rattle.shard_state.proofs.Pruning.{IsFolding, IsStored-folded, folding-init, folding-turned, touches-fewer, versions-folded}
use Rattle.shard_state.proofs.applying.fold_touched.Goals as goal

pub loop-v-init : goal.loop-v-init
loop-v-init c = λ f u stored lower. folding-init f u c.args.floor (cells_of c.args.class c.args.cells.now) c.args.touched.now.touches stored lower

pub loop-v-preserved : goal.loop-v-preserved
loop-v-preserved c = λ f u stored lower.
    folding-turned u c.args.floor (cells_of c.args.class c.args.cells.now) (cells_of c.args.class c.loop-v.cells) (cells_of c.args.class c.fold.new.self) c.in-Some.ensures.0 c.in-Some.v c.take_due.new.self.touches c.in-Some.ensures.1
    (subst (IsFolding u c.args.floor (cells_of c.args.class c.args.cells.now) (cells_of c.args.class c.loop-v.cells)) c.in-Some.ensures.2 (c.loop-v.invariant f u stored lower)) c.fold.ensures.folds c.fold.ensures.rests

pub loop-v-smaller : goal.loop-v-smaller
loop-v-smaller c = touches-fewer c.loop-v.touched.touches c.take_due.new.self.touches _ c.in-Some.ensures.2

pub returns-clause-stored : goal.returns-clause-stored
returns-clause-stored c = λ f u stored lower.
    subst (λ touches. IsStored c.args.floor u (cells_of c.args.class c.loop-v.cells) touches) (sym c.in_default.ensures.0)
    (IsStored-folded u c.args.floor (cells_of c.args.class c.args.cells.now) (cells_of c.args.class c.loop-v.cells) c.loop-v.touched.touches (c.loop-v.invariant f u stored lower) c.in_default.ensures.1)

pub returns-clause-folded : goal.returns-clause-folded
returns-clause-folded c = λ f u stored lower.
    versions-folded u c.args.floor (cells_of c.args.class c.args.cells.now) (cells_of c.args.class c.loop-v.cells) c.loop-v.touched.touches (c.loop-v.invariant f u stored lower) c.in_default.ensures.1
