-- How many pieces go and come in all timestamps of a history.
use Rattle.std.specs.Prelude.{ℕ, zero, suc, ◌+◌, List, length}
use Rattle.graph_types.specs.meaning.Graph.{Graph}
use Rattle.mining_model.specs.meaning.Changes.{added_pieces, removed_pieces}
use Rattle.mining_model.specs.meaning.Embeddings.{Pattern}
use Rattle.mining_model.specs.meaning.History.{graph_at}

-- the pieces that go at timestamps 1 to m, where these graphs follow g
abbrev pub removed_upto : Pattern → Graph → List Graph → ℕ → ℕ
removed_upto pattern g later zero = 0
removed_upto pattern g later (suc m) =
    removed_upto pattern g later m + length (removed_pieces pattern (graph_at g later m) (graph_at g later (suc m)))

-- the pieces that come there
abbrev pub added_upto : Pattern → Graph → List Graph → ℕ → ℕ
added_upto pattern g later zero = 0
added_upto pattern g later (suc m) =
    added_upto pattern g later m + length (added_pieces pattern (graph_at g later m) (graph_at g later (suc m)))
