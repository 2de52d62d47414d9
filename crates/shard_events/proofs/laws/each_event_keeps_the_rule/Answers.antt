use Rattle.shard_events.proofs.Beginning.{Rule-begun}
use Rattle.shard_events.proofs.EachEvent.{Rule-kept}
use Rattle.shard_events.proofs.laws.each_event_keeps_the_rule.Goals as goal

pub returns-clause-begins : goal.returns-clause-begins
returns-clause-begins c = Rule-begun

pub returns-clause-kept : goal.returns-clause-kept
returns-clause-kept c = Rule-kept
