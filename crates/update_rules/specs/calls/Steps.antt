-- What a call of `step` does.
use Rattle.std.specs.Prelude.{◌≡◌, ◌≢◌, ℕ, IsTrue, Result, Ok, Err, IsOk}
use Rattle.graph_types.specs.meaning.Graph.{Graph, HasEnds, has_vertex}
use Rattle.graph_types.specs.declared.update.Update.{Update}
use Rattle.graph_types.specs.declared.refusal.Refusal.{Refusal}
use Rattle.mining_model.specs.meaning.Step.{at_edge, step}
use Rattle.update_rules.specs.declared.steps.StepFault.{StepFault}
use Rattle.update_rules.specs.declared.steps.StepFault.TheVariants as fault

-- The graph is stepped; or it is as it was, and the fault says why it refuses the step. Out of memory is told only of
-- a step that the graph does not refuse.
abbrev pub Steps : Graph → Update → Result (Unit {0}) StepFault → Graph → Type 0
Steps old u (Ok done) new = step old u ≡ Ok new
Steps old u (Err (fault.Refused why)) new = (new ≡ old) × (step old u ≡ Err why)
Steps old u (Err fault.NoMemory) new = (new ≡ old) × IsOk (step old u)

-- the graph accepts the step, or refuses it for this reason
abbrev pub Admits : Graph → Update → Result (Unit {0}) Refusal → Type 0
Admits g u (Ok done) = IsOk (step g u)
Admits g u (Err why) = step g u ≡ Err why

-- two different vertices of the graph
pub record AreEnds (g : Graph) (from to : ℕ) : Type 0 where
  pub apart : from ≢ to
  pub first : IsTrue (has_vertex g from)
  pub second : IsTrue (has_vertex g to)

-- The two vertices are different and there, so that an update of their edge comes to what it does with
-- the edge. Else this is the reason to refuse each such update.
abbrev pub Joins : Graph → ℕ → ℕ → Result (ℕ × ℕ) Refusal → Type 0
Joins g from to (Ok e) = HasEnds g e × ((update : ℕ × ℕ → Result Graph Refusal) → at_edge g from to update ≡ update e)
Joins g from to (Err why) = (update : ℕ × ℕ → Result Graph Refusal) → at_edge g from to update ≡ Err why
