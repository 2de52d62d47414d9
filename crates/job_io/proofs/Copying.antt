-- What a source in memory copies into a buffer.
use Rattle.std.proofs.Common.{◌≡◌, ℕ, ◌≤◌, min, List, ◌++◌, length, take, drop, Some, Ok, sym, ap, ◌∙◌, arith}
use Rattle.std.proofs.Math.ListN.{drop_of_length-le}
use Rattle.std.proofs.lemmas.List.{take-append-drop}
use Rattle.std.specs.Io.KnownBytes.{ReadConsumes}
use Rattle.job_io.specs.declared.ends.Failed.{Failed}

-- the bytes copied are those that the source loses, and none are copied into a buffer with room only
-- where none are left
pub ReadConsumes-copied : (left after buf : List ℕ) (step n : ℕ) → 1 ≤ step → n ≡ min (min step (length buf)) (length left) → take n buf ≡ take n left → after ≡ drop n left → ReadConsumes {E = Failed} (Some left) (Some after) (Ok n) buf
ReadConsumes-copied left after buf step n some count same lost = (
  sym (take-append-drop n left) ∙ ap (λ zs. zs ++ drop n left) (sym same) ∙ ap (λ zs. take n buf ++ zs) (sym lost),
  λ none room. lost ∙ drop_of_length-le left (omega arith),
)
