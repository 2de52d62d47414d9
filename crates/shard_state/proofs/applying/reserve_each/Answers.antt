use Rattle.std.proofs.Common.{subst, sym, arith}
use Rattle.update_rules.specs.meaning.Parts.{vertex_of}
use Rattle.shared_lemmas.proofs.Membership.{IsIn-get_or, all-at}
use Rattle.shard_state.specs.storage.KeyedCells.{Owns, cells_of}
use Rattle.shard_state.proofs.CellSteps.{KeepsEntries-itself, KeepsEntries-then}
use Rattle.shard_state.proofs.StoredEntries.{room-all, room-more}
use Rattle.shard_state.proofs.applying.reserve_each.Goals as goal

pub loop-change-init : goal.loop-change-init
loop-change-init c = record { kept = KeepsEntries-itself _; ready = tt }

pub reserve-requires : goal.reserve-requires
reserve-requires c =
    subst (λ change. Owns c.args.class (vertex_of change)) (sym c.change-item.is)
    (all-at (λ change. Owns c.args.class (vertex_of change)) _ c.args.changes.now c.requires (IsIn-get_or c.args.changes.now c.loop-change.change-index _ c.loop-change-test.true))

pub returns-in_err-reserve-clause-kept : goal.returns-in_err-reserve-clause-kept
returns-in_err-reserve-clause-kept c = KeepsEntries-then _ _ _ c.loop-change.invariant.kept c.reserve.ensures.kept

pub loop-change-preserved : goal.loop-change-preserved
loop-change-preserved c = record {
  kept = KeepsEntries-then _ _ _ c.loop-change.invariant.kept c.reserve.ensures.kept;
  ready = room-more (cells_of c.args.class c.loop-change.cells) _ _ _ _ c.loop-change-test.true c.change-item.is c.reserve.ensures.kept c.loop-change.invariant.ready c.in_ok-reserve.ensures.ok;
}

pub returns-clause-kept : goal.returns-clause-kept
returns-clause-kept c = c.loop-change.invariant.kept

pub returns-clause-ok : goal.returns-clause-ok
returns-clause-ok c = room-all _ _ c.loop-change.change-index (omega arith) c.loop-change.invariant.ready
