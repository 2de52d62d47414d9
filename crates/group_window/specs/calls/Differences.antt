-- What differs between two graphs, as a group keeps it.
use Rattle.std.specs.Prelude.{◌≡◌, ℕ}
use Rattle.graph_types.specs.meaning.Graph.{Graph}
use Rattle.mining_model.specs.meaning.NetChange.{net_change}
use Rattle.group_window.specs.declared.differences.Difference.{Difference}
use Rattle.update_rules.specs.meaning.Parts.{parts_between}

-- it is the net change of the graphs, and their parts
pub record IsDifference (shards : ℕ) (difference : Difference) (before after : Graph) : Type 0 where
  pub net : difference.net ≡ net_change before after
  pub parts : difference.parts ≡ parts_between before after shards
