-- What a map ends as, where a `&mut` to one of its items is returned.
use Rattle.std.specs.Prelude.{ℕ, Option}
use Rattle.std.specs.Borrow.{LendsIf, Fml, RattleType, MutBor}
use Rattle.std.specs.FinMap as map
use Rattle.std.specs.Ordering.{nat_cmp}
use Rattle.id_map.specs.contracts.map.IdMap.{the_row}

-- once the borrow ends, the id has the last item written, and at `None` the map stays as it is
abbrev pub lends_item : (T : RattleType) → MutBor (map.FinMap nat_cmp T.Denot) → ℕ → Option (MutBor T.Denot) → Fml
lends_item T m id r = LendsIf (the_row T) T m r (λ item. map.insert m.now id item) m.now
