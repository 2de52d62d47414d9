use Rattle.search_model.proofs.Linked.{linked_after, linked_before}
use Rattle.search_model.proofs.laws.embeddings_are_linked.Goals as goal

pub returns-clause-before : goal.returns-clause-before
returns-clause-before c = linked_before

pub returns-clause-after : goal.returns-clause-after
returns-clause-after c = linked_after
