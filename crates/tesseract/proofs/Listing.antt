-- A page that is filled and then sent.
use Rattle.std.proofs.Common.{◌≡◌, ℕ, List, [], ◌++◌, Option, Result, Ok, subst}
use Rattle.job_io.specs.calls.Ends.{Gathers, Puts}
use Rattle.job_io.proofs.Gathering.{Gathers-Puts}

-- a text that went through an empty page is put
pub Puts-page : {S D T E : Type 0} (old mid new : Option (List ℕ)) (held holds text : List ℕ) (v : S)
    (result : Result T E) → held ≡ [] → Gathers {T = S} {E = D} old held mid holds text (Ok v) →
    Puts mid new holds result → Puts old new text result
Puts-page old mid new held holds text v result empty gathers puts =
    subst (λ held. Puts old new (held ++ text) result) empty (Gathers-Puts gathers puts)
