-- An update that is refused.
use Rattle.std.proofs.Common.{Result, Ok, Err, ◌≡◌, sym, ap, ◌∙◌}
use Rattle.std.specs.Result.{IsErrAnd}
use Rattle.graph_types.specs.meaning.Graph.{Graph}
use Rattle.graph_types.specs.declared.refusal.Refusal.{Refusal}
use Rattle.graph_types.specs.declared.update.Update.{Update}
use Rattle.mining_model.specs.meaning.Step.{step}
use Rattle.update_rules.specs.calls.Steps.{Admits}

pub Admits-refused : (g : Graph) (u : Update) (result : Result (Unit {0}) Refusal) (why : Refusal) → IsErrAnd result (λ told. told ≡ why) → step g u ≡ Err why → Admits g u result
Admits-refused g u (Ok done) why told refused = absurd told
Admits-refused g u (Err other) why told refused = refused ∙ ap Err (sym told)
