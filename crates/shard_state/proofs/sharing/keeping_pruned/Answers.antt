use Rattle.shard_state.proofs.TellingOn.{KeepGraph-pruned, floors-pruned}
use Rattle.shard_state.proofs.sharing.keeping_pruned.Goals as goal

pub returns-clause-keep : goal.returns-clause-keep
returns-clause-keep c = KeepGraph-pruned

pub returns-clause-floors : goal.returns-clause-floors
returns-clause-floors c = floors-pruned
