use Rattle.mining_model.proofs.Sides.{IsConnected_of, connected_of}
use Rattle.mining_model.proofs.laws.connected_by_sides.Goals as goal

pub returns : goal.returns
returns c = λ g. (IsConnected_of g, connected_of g)
