use Rattle.std.proofs.Common.{◌≡◌, ◌≤◌, ◌+◌, ◌++◌, length}
use Rattle.std.specs.Slice.Iter.{iter_rest}
use Rattle.id_map.specs.storage.Places.{places_from, table_bound}
use Rattle.id_map.proofs.walk.WalkIterator.next.Given as goal

-- only entries that tell no place were passed over
abbrev pub invariant-loop-entry : goal.invariant-loop-entry
invariant-loop-entry l =
    (l.self-inside.id + length (iter_rest l.self-inside.near) ≤ table_bound)
    × (places_from l.self-inside.id (iter_rest l.self-inside.near) ++ l.self-inside.far ≡ l.fn.self)

abbrev pub decreases-loop-entry : goal.decreases-loop-entry
decreases-loop-entry l = length (iter_rest l.self-inside.near)
