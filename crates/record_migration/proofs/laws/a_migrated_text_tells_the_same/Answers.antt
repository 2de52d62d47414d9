use Rattle.record_migration.proofs.Retelling.{retold_text}
use Rattle.record_migration.proofs.laws.a_migrated_text_tells_the_same.Goals as goal

pub returns : goal.returns
returns c = λ most text t pieces small so. retold_text most text t pieces small so
