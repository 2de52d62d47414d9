-- The counts so far, with the bytes that are left, come to those of all bytes.
use Rattle.std.proofs.Common.{◌≡◌, ◌-◌, length, drop}
use Rattle.record_tally.specs.calls.Counting.{HasRoom, counts_after}
use Rattle.record_tally.proofs.counts.Counts.after.Given as goal

abbrev pub invariant-loop-byte : goal.invariant-loop-byte
invariant-loop-byte l =
    (counts_after l.counts (drop l.byte-index l.bytes) ≡ counts_after l.fn.self l.bytes)
    × HasRoom l.counts (length l.bytes - l.byte-index)
