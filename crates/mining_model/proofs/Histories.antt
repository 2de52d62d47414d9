-- The graphs of a history.
use Rattle.std.proofs.Common.{◌≡◌, ℕ, zero, suc, List, [], ◌∷◌, ◌++◌, length, All, sym, ap, refl, arith}
use Rattle.std.proofs.lemmas.List.Elements.{All-head, All-tail}
use Rattle.graph_types.specs.meaning.Graph.{Graph}
use Rattle.mining_model.specs.meaning.Step.{graph_after_all}
use Rattle.mining_model.specs.meaning.History.{Group, history, graph_at}

-- the graph that comes after some others
pub graph_at-next : (g : Graph) (seen : List Graph) (next : Graph) (later : List Graph) (t : ℕ) → length seen ≡ t → graph_at g (seen ++ next ∷ later) (suc t) ≡ next
graph_at-next g [] next later t long = ap (graph_at next later) (sym long)
graph_at-next g (h ∷ seen) next later zero long = absurd (omega (arith, long))
graph_at-next g (h ∷ seen) next later (suc t) long = graph_at-next h seen next later t (omega (arith, long))

-- each group leads to one graph
pub length-history : (g : Graph) (groups : List Group) → length (history g groups) ≡ length groups
length-history g [] = refl
length-history g (us ∷ groups) = ap suc (length-history (graph_after_all g us) groups)

module _ (P : Graph → Type 0) where
  -- what is claimed of the first graph and of each later one
  pub each-graph_at : (g : Graph) (later : List Graph) (t : ℕ) → P g → All P later → P (graph_at g later t)
  each-graph_at g later zero here all = here
  each-graph_at g [] (suc t) here all = here
  each-graph_at g (next ∷ later) (suc t) here all = each-graph_at next later t (All-head P next later all) (All-tail P next later all)
