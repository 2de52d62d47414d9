-- What is known of the bytes of an end, from one state to a later one.
use Rattle.std.proofs.Common.{List, Option, None, Some, ℕ}
use Rattle.job_io.specs.calls.Ends.{BothKnown}

-- what is known of bytes that have not changed
pub BothKnown-same : (P : List ℕ → List ℕ → Type 0) (known : Option (List ℕ)) →
    ((bytes : List ℕ) → P bytes bytes) → BothKnown known known P
BothKnown-same P None p = tt
BothKnown-same P (Some bytes) p = p bytes

-- what is known of one change and of the next
pub BothKnown-then : (P Q R : List ℕ → List ℕ → Type 0) (old mid new : Option (List ℕ)) →
    BothKnown old mid P → BothKnown mid new Q →
    ((was now is : List ℕ) → P was now → Q now is → R was is) → BothKnown old new R
BothKnown-then P Q R None mid new p q join = tt
BothKnown-then P Q R (Some was) None new p q join = absurd p
BothKnown-then P Q R (Some was) (Some now) None p q join = absurd q
BothKnown-then P Q R (Some was) (Some now) (Some is) p q join = join was now is p q

pub BothKnown-map : (P Q : List ℕ → List ℕ → Type 0) (old new : Option (List ℕ)) →
    BothKnown old new P → ((was is : List ℕ) → P was is → Q was is) → BothKnown old new Q
BothKnown-map P Q None new p f = tt
BothKnown-map P Q (Some was) None p f = absurd p
BothKnown-map P Q (Some was) (Some is) p f = f was is p
