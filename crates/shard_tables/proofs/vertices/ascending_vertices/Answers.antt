use Rattle.shard_tables.proofs.Ascent.{sorted-new}
use Rattle.shard_tables.proofs.vertices.ascending_vertices.Goals as goal

pub returns-then-is_empty : goal.returns-then-is_empty
returns-then-is_empty c = sorted-new _ c.new-vertices.ensures

pub loop-word-init : goal.loop-word-init
loop-word-init c = sorted-new _ c.new-vertices.ensures
