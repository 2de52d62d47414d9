-- What the limits say of a line.
use Rattle.std.proofs.Common.{◌≡◌, ℕ, ◌<◌, ◌≤◌, true, false, List, length, cond, ap, ◌∙◌, arith}
use Rattle.std.specs.Prelude.{nat_lt}
use Rattle.std.proofs.lemmas.Bool.Decides.{nat_tests}
use Rattle.job_io.specs.meaning.Lines.{most_line_bytes, without_cr}
use Rattle.job.specs.declared.fault.JobRefusal.TheVariants as refusal
use Rattle.job.specs.meaning.Judging.{Stage, refused, text_judgement, judgement}

-- a line that is not one too many is judged by its length
not_many : (most n : ℕ) (stage : Stage) (bytes : List ℕ) → n ≤ most →
    judgement most n stage bytes
    ≡ cond (nat_lt most_line_bytes (length bytes)) (refused (refusal.LineBytes n))
    (text_judgement n stage (without_cr bytes))
not_many most n stage bytes few =
    let is : nat_lt most n ≡ false = grind (arith, nat_tests) in
    ap (λ b. cond b (refused (refusal.Lines n))
    (cond (nat_lt most_line_bytes (length bytes)) (refused (refusal.LineBytes n))
    (text_judgement n stage (without_cr bytes)))) is

-- a line that is not too long, and not one too many
pub judged-short : (most n : ℕ) (stage : Stage) (bytes : List ℕ) → n ≤ most →
    length bytes ≤ most_line_bytes → judgement most n stage bytes ≡ text_judgement n stage (without_cr bytes)
judged-short most n stage bytes few short =
    let is : nat_lt most_line_bytes (length bytes) ≡ false = grind (arith, nat_tests) in
    not_many most n stage bytes few
    ∙ ap (λ b. cond b (refused (refusal.LineBytes n)) (text_judgement n stage (without_cr bytes))) is

-- a line that is too long
pub judged-long : (most n : ℕ) (stage : Stage) (bytes : List ℕ) → n ≤ most →
    most_line_bytes < length bytes → judgement most n stage bytes ≡ refused (refusal.LineBytes n)
judged-long most n stage bytes few long =
    let is : nat_lt most_line_bytes (length bytes) ≡ true = grind (arith, nat_tests) in
    not_many most n stage bytes few
    ∙ ap (λ b. cond b (refused (refusal.LineBytes n)) (text_judgement n stage (without_cr bytes))) is

-- one line too many
pub judged-many : (most n : ℕ) (stage : Stage) (bytes : List ℕ) → most < n →
    judgement most n stage bytes ≡ refused (refusal.Lines n)
judged-many most n stage bytes many =
    let too_many : nat_lt most n ≡ true = grind (arith, nat_tests) in
    ap (λ b. cond b (refused (refusal.Lines n))
    (cond (nat_lt most_line_bytes (length bytes)) (refused (refusal.LineBytes n))
    (text_judgement n stage (without_cr bytes)))) too_many
