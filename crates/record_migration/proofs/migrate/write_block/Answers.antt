use Rattle.std.proofs.Common.{length, refl}
use Rattle.job_io.proofs.Gathering.{Gathers-err, Gathers-more, Gathers-then}
use Rattle.record_migration.proofs.Blocks.{Gathers-as, block_is}
use Rattle.record_migration.proofs.migrate.write_block.Goals as goal

pub returns-in_err-write_delta-clause-text : goal.returns-in_err-write_delta-clause-text
returns-in_err-write_delta-clause-text g c =
    let s = c.args.fold.now in
    Gathers-as (block_is s c.args.t (length s.held) c.went.result.now c.came.result.now c.went.ensures c.came.ensures refl)
    (Gathers-err _ c.from_residual.ensures.0 (Gathers-more _ c.in_err-write_delta.ensures.text))

pub returns-clause-text : goal.returns-clause-text
returns-clause-text g c =
    Gathers-as (block_is c.args.fold.now c.args.t c.held.result c.went.result.now c.came.result.now c.went.ensures c.came.ensures c.held.ensures)
    (Gathers-then c.in_ok-write_delta.ensures.text c.write_done.ensures.text)
