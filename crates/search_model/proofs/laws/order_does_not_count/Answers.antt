use Rattle.search_model.proofs.SameItems.{embedded_picture-same, has_piece-same, holds_a_seed-same, holds_seed-same, is_embedding-same, is_live-same, picture-same}
use Rattle.search_model.proofs.laws.order_does_not_count.Goals as goal

pub returns-clause-presence : goal.returns-clause-presence
returns-clause-presence c = λ xs ys g same. has_piece-same xs ys same g

pub returns-clause-picture : goal.returns-clause-picture
returns-clause-picture c = λ xs ys g same. picture-same xs ys same g

pub returns-clause-embedded : goal.returns-clause-embedded
returns-clause-embedded c = λ pattern xs ys g same. is_embedding-same xs ys same pattern g

pub returns-clause-embedded_picture : goal.returns-clause-embedded_picture
returns-clause-embedded_picture c = λ pattern xs ys g same. embedded_picture-same xs ys same pattern g

pub returns-clause-live : goal.returns-clause-live
returns-clause-live c = λ target xs ys before after same. is_live-same xs ys same target before after

pub returns-clause-seed : goal.returns-clause-seed
returns-clause-seed c = λ xs ys seed same. holds_seed-same xs ys same seed

pub returns-clause-some_seed : goal.returns-clause-some_seed
returns-clause-some_seed c = λ kind xs ys before after same. holds_a_seed-same xs ys same kind before after
