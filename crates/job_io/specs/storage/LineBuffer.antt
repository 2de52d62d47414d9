-- What a block of bytes holds for a reader of lines.
use Rattle.std.specs.Prelude.{◌≡◌, ℕ, ◌≤◌, List, ◌++◌, length, Option, Result, MatchResult}
use Rattle.job_io.specs.declared.line_buffer.TheConstants.{BLOCK}
use Rattle.std.specs.Io.KnownBytes.{Consumes, Keeps, IsAtEnd}

-- the line that was given last, and the bytes that were taken and not given
pub record BufferValue : Type 0 where
  pub line : List ℕ
  pub held : List ℕ

-- the block has its whole length, and both parts lie in it
pub record FillsBlock (bytes : List ℕ) (line_start line_end start end : ℕ) : Type 0 where
  pub length : length bytes ≡ BLOCK
  pub line : line_start ≤ line_end
  pub line_within : line_end ≤ BLOCK
  pub held : start ≤ end
  pub held_within : end ≤ BLOCK

-- More bytes came after what was held, as many as the result says, and none only at the end of the
-- source. After a failure all is as it was.
abbrev pub TakesBlock : {E : Type 0} → List ℕ → List ℕ → Option (List ℕ) → Option (List ℕ) → Result ℕ E → Type 0
TakesBlock held now was is result = MatchResult result
    (λ count. (came : List ℕ) × (now ≡ held ++ came) × (length came ≡ count) × Consumes was is came × (count ≡ 0 → IsAtEnd is))
    (λ _. (now ≡ held) × Keeps was is)
