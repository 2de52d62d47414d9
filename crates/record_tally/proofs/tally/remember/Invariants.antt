-- The bytes so far are seen, and there is room for the others.
use Rattle.std.proofs.Common.{◌≡◌, ◌+◌, ◌-◌, ◌≤◌, ◌++◌, length, take, vec_len, vec_capacity}
use Rattle.record_tally.specs.storage.Remembered.{remembered}
use Rattle.record_tally.proofs.tally.remember.Given as goal

abbrev pub invariant-loop-byte : goal.invariant-loop-byte
invariant-loop-byte l =
    (remembered l.seen.items ≡ remembered l.fn.seen.items ++ take l.byte-index l.bytes)
    × (vec_len l.seen + (length l.bytes - l.byte-index) ≤ vec_capacity l.seen)
