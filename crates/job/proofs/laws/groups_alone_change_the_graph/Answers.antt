use Rattle.job.proofs.Following.{moved-LeadsOn, accepted-Accepts}
use Rattle.job.proofs.laws.groups_alone_change_the_graph.Goals as goal

pub returns-clause-moved : goal.returns-clause-moved
returns-clause-moved c = λ most n stage next bytes is. moved-LeadsOn most n stage next bytes is

pub returns-clause-accepted : goal.returns-clause-accepted
returns-clause-accepted c = λ most n stage next bytes us is. accepted-Accepts most n stage next bytes us is
