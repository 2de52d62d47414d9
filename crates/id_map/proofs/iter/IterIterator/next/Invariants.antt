use Rattle.std.proofs.Common.{◌≡◌, length}
use Rattle.id_map.specs.storage.Items.{items_at}
use Rattle.id_map.proofs.iter.IterIterator.next.Given as goal

-- only places without an item were passed over
abbrev pub invariant-loop-id : goal.invariant-loop-id
invariant-loop-id g l = items_at l.self-inside.items.now l.self-inside.places ≡ l.fn.self

abbrev pub decreases-loop-id : goal.decreases-loop-id
decreases-loop-id g l = length l.self-inside.places
