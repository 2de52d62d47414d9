use Rattle.search_model.proofs.Seeded.{come_holds_seed, gone_holds_seed}
use Rattle.search_model.proofs.laws.changed_embeddings_hold_seeds.Goals as goal

pub returns-clause-gone : goal.returns-clause-gone
returns-clause-gone c = gone_holds_seed

pub returns-clause-come : goal.returns-clause-come
returns-clause-come c = come_holds_seed
