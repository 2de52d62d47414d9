-- A part of a block: how it is skipped, moved to the front, and added to.
use Rattle.std.proofs.Common.{◌≡◌, ℕ, ◌+◌, ◌-◌, ◌≤◌, List, ◌++◌, length, take, drop, sym, ◌∙◌, ap, arith, append_assoc, length-take, length-drop}
use Rattle.std.specs.List.{slice_range, copy_within}
use Rattle.std.proofs.Math.Seq.{take-append-add}
use Rattle.std.proofs.lemmas.List.{drop-drop, drop-take, take-take, take_at, take-append-le}
use borrow.Rule.Slice.PartMut.{put_mid, post_of}

-- the part without its first n bytes
pub slice_range-skip : (block : List ℕ) (start end n : ℕ) → n ≤ end - start → slice_range block (start + n) end ≡ drop n (slice_range block start end)
slice_range-skip block start end n within =
    let left : ℕ = end - (start + n) in
    let whole : n + left ≡ end - start = omega arith in
    ap (take left) (sym (drop-drop n start block))
    ∙ sym (drop-take n left (drop start block))
    ∙ ap (λ k. drop n (take k (drop start block))) whole

pub length-slice_range : (block : List ℕ) (start end : ℕ) → end ≤ length block → length (slice_range block start end) ≡ end - start
length-slice_range block start end within = simp (length-take, length-drop) (omega arith)

-- the part stands at the start of the block that it was moved to the front of
pub take-copy_within : (block : List ℕ) (start end : ℕ) → end ≤ length block → take (end - start) (copy_within block start end 0) ≡ slice_range block start end
take-copy_within block start end within =
    take_at (slice_range block start end) (drop (0 + (end - start)) block) (end - start) (length-slice_range block start end within)

-- what came after a prefix of the block that was kept
pub slice_range-filled : (front block came rest : List ℕ) (kept room size count : ℕ) → take kept block ≡ front → length front ≡ kept → count ≤ length came → kept + count ≤ size
    → slice_range (take size (put_mid kept room block came ++ rest)) 0 (kept + count) ≡ front ++ take count came
slice_range-filled front block came rest kept room size count is_front is_kept within fits =
    let post : List ℕ = post_of kept room block in
    let whole : List ℕ = put_mid kept room block came ++ rest in
    let at_zero : (kept + count) - 0 ≡ kept + count = omega arith in
    let split : whole ≡ front ++ (came ++ (post ++ rest)) = ap (λ t. t ++ (came ++ post) ++ rest) is_front ∙ append_assoc front (came ++ post) rest ∙ ap (λ t. front ++ t) (append_assoc came post rest) in
    ap (λ n. take n (take size whole)) at_zero
    ∙ take-take (kept + count) size whole fits
    ∙ ap (take (kept + count)) split
    ∙ ap (λ n. take (n + count) (front ++ (came ++ (post ++ rest)))) (sym is_kept)
    ∙ take-append-add front (came ++ (post ++ rest)) count
    ∙ ap (λ t. front ++ t) (take-append-le count came (post ++ rest) within)
