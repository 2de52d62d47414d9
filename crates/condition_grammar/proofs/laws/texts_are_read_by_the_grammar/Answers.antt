use Rattle.condition_grammar.proofs.Completing.{says-condition_of}
use Rattle.condition_grammar.proofs.Deriving.{condition_of-says}
use Rattle.condition_grammar.proofs.laws.texts_are_read_by_the_grammar.Goals as goal

pub returns : goal.returns
returns c text names x after = (λ read. condition_of-says text names (x, after) read, λ says. says-condition_of text names x after says)
