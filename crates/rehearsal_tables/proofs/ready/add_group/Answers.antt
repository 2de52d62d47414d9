use Rattle.std.proofs.Common.{refl}
use Rattle.rehearsal_tables.proofs.Leading.{Leads-ended}
use Rattle.rehearsal_tables.proofs.ready.add_group.Goals as goal

pub loop-update-preserved : goal.loop-update-preserved
loop-update-preserved c = record {
  opened = c.add.ensures.opened;
  stands = c.add.ensures.stands;
  leads = λ at count before leads. c.add.ensures.leads at count before (c.loop-update.invariant.leads at count before leads);
}

pub returns-clause-leads : goal.returns-clause-leads
returns-clause-leads c = λ at count before leads.
    Leads-ended at count before c.loop-update.window c.end_group.new.self c.loop-update.window.current c.loop-update.graph refl c.loop-update.invariant.opened c.in_ok-end_group.ensures.ok
    (c.loop-update.invariant.leads at count before leads)
