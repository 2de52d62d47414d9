-- Counts of lines, a few bytes at a time.
use Rattle.std.proofs.Common.{◌≡◌, ℕ, ◌+◌, ◌-◌, ◌≤◌, ◌<◌, ◌^◌, Bool, true, false, ◌&&◌, List, [], ◌∷◌, ◌++◌, length, eqb, drop, get_or, refl, sym, ap, ◌∙◌, arith, add_assoc, if◌then◌else◌}
use Rattle.std.proofs.lemmas.List.{at_drop_more}
use Rattle.job_io.specs.meaning.Lines.{is_lf}
use Rattle.record_tally.specs.declared.counts.Counts.{Counts}
use Rattle.record_tally.specs.calls.Counting.{HasRoom, counts_after, counts_with}
use Rattle.record_tally.specs.meaning.Lines.{begins, fresh_after, lines_beginning_from}
use Rattle.record_tally.specs.storage.Remembered.{counts_of}

-- a byte begins one line at most
begins-one : (first : ℕ) (fresh : Bool) (byte : ℕ) → begins first fresh byte ≤ 1
begins-one first fresh byte =
    elim (fresh && eqb byte first) as (λ b. (if b then 1 else 0) ≤ 1) [ true ↦ omega arith | false ↦ omega arith ]

-- ---- one byte and then others

counts-first : (c : Counts) (byte : ℕ) (bytes : List ℕ) → counts_after c (byte ∷ bytes) ≡ counts_after (counts_with c byte) bytes
counts-first c byte bytes = λ i. record {
  removed = sym (add_assoc c.removed (begins 82 c.fresh byte) (lines_beginning_from 82 (is_lf byte) bytes)) i;
  added = sym (add_assoc c.added (begins 78 c.fresh byte) (lines_beginning_from 78 (is_lf byte) bytes)) i;
  done = sym (add_assoc c.done (begins 68 c.fresh byte) (lines_beginning_from 68 (is_lf byte) bytes)) i;
  fresh = fresh_after (is_lf byte) bytes;
}

-- the byte at a place, and those after it
pub counts-more : (c start : Counts) (bytes : List ℕ) (i byte : ℕ) → i < length bytes → byte ≡ get_or bytes i byte →
    counts_after c (drop i bytes) ≡ counts_after start bytes →
    counts_after (counts_with c byte) (drop (i + 1) bytes) ≡ counts_after start bytes
counts-more c start bytes i byte within is so_far =
    sym (counts-first c byte (drop (i + 1) bytes))
    ∙ ap (λ b. counts_after c (b ∷ drop (i + 1) bytes)) is
    ∙ sym (at_drop_more (counts_after c) bytes i byte within) ∙ so_far

pub HasRoom-more : (c : Counts) (byte i n : ℕ) → i < n → HasRoom c (n - i) → HasRoom (counts_with c byte) (n - (i + 1))
HasRoom-more c byte i n within room = record {
  removed = omega (arith, room.removed, within, begins-one 82 c.fresh byte);
  added = omega (arith, room.added, within, begins-one 78 c.fresh byte);
  done = omega (arith, room.done, within, begins-one 68 c.fresh byte);
}

-- ---- some bytes and then others

pub lines-append : (first : ℕ) (fresh : Bool) (xs ys : List ℕ) →
    lines_beginning_from first fresh (xs ++ ys)
    ≡ lines_beginning_from first fresh xs + lines_beginning_from first (fresh_after fresh xs) ys
lines-append first fresh [] ys = omega arith
lines-append first fresh (x ∷ xs) ys =
    ap (λ n. begins first fresh x + n) (lines-append first (is_lf x) xs ys)
    ∙ sym (add_assoc (begins first fresh x) (lines_beginning_from first (is_lf x) xs) (lines_beginning_from first (fresh_after (is_lf x) xs) ys))

pub fresh-append : (fresh : Bool) (xs ys : List ℕ) → fresh_after fresh (xs ++ ys) ≡ fresh_after (fresh_after fresh xs) ys
fresh-append fresh [] ys = refl
fresh-append fresh (x ∷ xs) ys = fresh-append (is_lf x) xs ys

-- no more lines begin than there are bytes
pub lines-bounded : (first : ℕ) (fresh : Bool) (text : List ℕ) → lines_beginning_from first fresh text ≤ length text
lines-bounded first fresh [] = omega arith
lines-bounded first fresh (x ∷ text) = omega (arith, begins-one first fresh x, lines-bounded first (is_lf x) text)

-- the counts of all bytes, from those of the first ones
pub counts-append : (text bytes : List ℕ) → counts_after (counts_of text) bytes ≡ counts_of (text ++ bytes)
counts-append text bytes = λ i. record {
  removed = sym (lines-append 82 true text bytes) i;
  added = sym (lines-append 78 true text bytes) i;
  done = sym (lines-append 68 true text bytes) i;
  fresh = sym (fresh-append true text bytes) i;
}

pub HasRoom-of : (text : List ℕ) (n : ℕ) → length text + n < 2 ^ 64 → HasRoom (counts_of text) n
HasRoom-of text n few = record {
  removed = omega (arith, few, lines-bounded 82 true text);
  added = omega (arith, few, lines-bounded 78 true text);
  done = omega (arith, few, lines-bounded 68 true text);
}
