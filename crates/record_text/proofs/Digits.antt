-- Digits that are put before the bytes held, which stand at the end of a block.
use Rattle.std.proofs.Common.{◌≡◌, ℕ, ◌+◌, ◌≤◌, List, ◌++◌, length, drop, ap, arith, length-append, length-drop}

-- where they have room
pub digits_fit : (most start : ℕ) (digits block held : List ℕ) → length digits ≤ most → drop start block ≡ held → start ≤ length block → length held + most ≤ length block → length digits ≤ start
digits_fit most start digits block held few is within room = omega (arith, few, within, room, ap length is, length-drop start block)

pub digits_short : (most : ℕ) (digits held after : List ℕ) → length digits ≤ most → after ≡ digits ++ held → length after ≤ length held + most
digits_short most digits held after few is = omega (arith, few, ap length is, length-append digits held)
