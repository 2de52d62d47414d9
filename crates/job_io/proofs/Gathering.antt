-- How calls that write add up.
--
-- What two calls of `put` say together is `Gathers-then` of their clauses, and with a `send` after them it is
-- `Gathers-Puts`. At the exit of a `?` it is `Gathers-err _ c.from_residual.ensures.0` of what the failed call
-- says, with a `Gathers-more _` around that for each text that was to follow.
use Rattle.std.proofs.Common.{◌≡◌, ℕ, ◌+◌, ◌≤◌, List, [], ◌++◌, length, min, take, drop, Option, Some, None, Result, Ok, Err, IsErr, inl, inr, sym, ap, subst, ◌∙◌, append_assoc, arith}
use Rattle.std.proofs.Math.Seq.{take-append-add}
use Rattle.std.proofs.lemmas.List.{append-nil, take_min, take-append-drop, take-append-le}
use Rattle.std.proofs.lemmas.Bool.{false≢true}
use Rattle.std.specs.Io.KnownBytes.{Appends, Keeps, ReadConsumes, WriteAppends}
use Rattle.job_io.specs.declared.ends.Failed.{Failed}
use Rattle.job_io.specs.calls.Ends.{AppendsPrefix, Puts, PassesOn, Gathers}
use Rattle.job_io.specs.calls.WriteCalls.{Writes, Stops, WritesAll, WritesBoth}

-- two appends are one
pub Appends-then : (old mid new : Option (List ℕ)) (xs ys : List ℕ) → Appends old mid xs → Appends mid new ys → Appends old new (xs ++ ys)
Appends-then None mid new xs ys a b = tt
Appends-then (Some os) None new xs ys a b = absurd a
Appends-then (Some os) (Some ms) None xs ys a b = absurd b
Appends-then (Some os) (Some ms) (Some ns) xs ys a b = b ∙ ap (λ zs. zs ++ ys) a ∙ append_assoc os xs ys

-- known bytes that stay grow by nothing
pub Appends-kept : (old new : Option (List ℕ)) → Keeps old new → Appends old new []
Appends-kept None new k = tt
Appends-kept (Some os) None k = absurd k
Appends-kept (Some os) (Some ns) k = k ∙ sym (append-nil os)

-- a read of a source whose known bytes have stayed
pub Keeps-ReadConsumes : {E : Type 0} (old mid new : Option (List ℕ)) (result : Result ℕ E) (buf : List ℕ) → Keeps old mid → ReadConsumes mid new result buf → ReadConsumes old new result buf
Keeps-ReadConsumes None mid new (Ok n) buf k r = (tt, r.1)
Keeps-ReadConsumes None mid new (Err e) buf k r = tt
Keeps-ReadConsumes (Some xs) None new result buf k r = absurd k
Keeps-ReadConsumes (Some xs) (Some ys) new result buf k r = subst (λ zs. ReadConsumes (Some zs) new result buf) k r

-- a write to a sink whose known bytes have stayed
pub Keeps-WriteAppends : {E : Type 0} (old mid new : Option (List ℕ)) (result : Result ℕ E) (bytes : List ℕ) → Keeps old mid → WriteAppends mid new result bytes → WriteAppends old new result bytes
Keeps-WriteAppends None mid new (Ok n) bytes k w = tt
Keeps-WriteAppends None mid new (Err e) bytes k w = tt
Keeps-WriteAppends (Some xs) None new result bytes k w = absurd k
Keeps-WriteAppends (Some xs) (Some ys) new result bytes k w = subst (λ zs. WriteAppends (Some zs) new result bytes) k w

-- before anything is written, all is held
pub PassesOn-start : (known : Option (List ℕ)) (held : List ℕ) → PassesOn known held known held []
PassesOn-start None held = record { sent = []; written = tt; rest = sym (append-nil held) }
PassesOn-start (Some xs) held = record { sent = []; written = sym (append-nil xs); rest = sym (append-nil held) }

-- a prefix of what is held was written, and the rest is held
pub PassesOn-front : (old new : Option (List ℕ)) (held : List ℕ) (n : ℕ) → Appends old new (take n held) → PassesOn old held new (drop n held) []
PassesOn-front old new held n a = record {
  sent = take n held;
  written = a;
  rest = take-append-drop n held ∙ sym (append-nil held);
}

-- a text and then another one
pub PassesOn-then : {old mid new : Option (List ℕ)} {held holds keeps first second : List ℕ} → PassesOn old held mid holds first → PassesOn mid holds new keeps second → PassesOn old held new keeps (first ++ second)
PassesOn-then {old} {mid} {new} {held} {holds} {keeps} {first} {second} p q = record {
  sent = p.sent ++ q.sent;
  written = Appends-then old mid new p.sent q.sent p.written q.written;
  rest = append_assoc p.sent q.sent keeps
      ∙ ap (λ zs. p.sent ++ zs) q.rest
      ∙ sym (append_assoc p.sent holds second)
      ∙ ap (λ zs. zs ++ second) p.rest
      ∙ append_assoc held first second;
}

-- known bytes that stay grow by a prefix, which is empty
pub AppendsFront-kept : (old new : Option (List ℕ)) (text : List ℕ) → Keeps old new → AppendsPrefix old new text
AppendsFront-kept old new text k = record { len = 0; written = Appends-kept old new k }

-- a prefix of a text is a prefix of a longer one
pub AppendsFront-more : {old new : Option (List ℕ)} {text : List ℕ} (more : List ℕ) → AppendsPrefix old new text → AppendsPrefix old new (text ++ more)
AppendsFront-more {old} {new} {text} more front =
    let short : min front.len (length text) ≤ length text = omega arith in
    let same : take front.len text ≡ take (min front.len (length text)) (text ++ more) =
    sym (take_min front.len text) ∙ sym (take-append-le (min front.len (length text)) text more short) in
    record { len = min front.len (length text); written = subst (Appends old new) same front.written }

-- a text, and then a prefix of another one
pub AppendsFront-after : (old : Option (List ℕ)) {mid new : Option (List ℕ)} (first : List ℕ) {second : List ℕ} → Appends old mid first → AppendsPrefix mid new second → AppendsPrefix old new (first ++ second)
AppendsFront-after old {mid} {new} first {second} a front = record {
  len = length first + front.len;
  written = subst (Appends old new) (sym (take-append-add first second front.len))
      (Appends-then old mid new first (take front.len second) a front.written);
}

-- a text was passed on, and then a prefix of what is held and of another text was written
pub AppendsFront-then : {old mid new : Option (List ℕ)} {held holds first : List ℕ} (second : List ℕ) → PassesOn old held mid holds first → AppendsPrefix mid new (holds ++ second) → AppendsPrefix old new (held ++ (first ++ second))
AppendsFront-then {old} {mid} {new} {held} {holds} {first} second p front =
    let whole : p.sent ++ (holds ++ second) ≡ held ++ (first ++ second) =
    sym (append_assoc p.sent holds second) ∙ ap (λ zs. zs ++ second) p.rest ∙ append_assoc held first second in
    subst (AppendsPrefix old new) whole (AppendsFront-after old p.sent p.written front)

-- a part of what was held is out, and no more follows than a prefix of the rest
pub PassesOn-stops : {old mid new : Option (List ℕ)} {held holds : List ℕ} → PassesOn old held mid holds [] → AppendsPrefix mid new holds → AppendsPrefix old new held
PassesOn-stops {old} {mid} {new} {held} {holds} p front =
    subst (AppendsPrefix old new) (append-nil held) (AppendsFront-then [] p (AppendsFront-more [] front))

-- a text, and then another one that is put
pub Puts-after : {T E : Type 0} (old : Option (List ℕ)) {mid new : Option (List ℕ)} (first : List ℕ) {second : List ℕ} {result : Result T E} → Appends old mid first → Puts mid new second result → Puts old new (first ++ second) result
Puts-after old {mid = mid} {new = new} first {second = second} {result = Ok v} a p = record { all = Appends-then old mid new first second a p.all; front = tt }
Puts-after old first {result = Err e} a p = record { all = tt; front = AppendsFront-after old first a p.front }

-- an error after a prefix of a text
pub Puts-front : {T E : Type 0} {old new : Option (List ℕ)} {text : List ℕ} (result : Result T E) → IsErr result → AppendsPrefix old new text → Puts old new text result
Puts-front (Ok v) is front = absurd (false≢true is)
Puts-front (Err e) is front = record { all = tt; front = front }

-- the exit of a `?`
pub Puts-err : {T E U F : Type 0} {old new : Option (List ℕ)} {text : List ℕ} {e : E} (result : Result U F) → IsErr result → Puts {T = T} old new text (Err e) → Puts old new text result
Puts-err (Ok v) is p = absurd (false≢true is)
Puts-err (Err d) is p = record { all = tt; front = p.front }

-- the exit of a `?` where more was to follow
pub Puts-more : {T E : Type 0} {old new : Option (List ℕ)} {text : List ℕ} {e : E} (more : List ℕ) → Puts {T = T} old new text (Err e) → Puts {T = T} old new (text ++ more) (Err e)
Puts-more more p = record { all = tt; front = AppendsFront-more more p.front }

-- the exit of a `?` on the last of the calls
pub WritesAll-stops : {O T E : Type 0} {gives : O → List ℕ → Result ℕ Failed → O → Type 0} {old new : O} {text : List ℕ} (result : Result T E) → IsErr result → Stops gives old text new → WritesAll gives old text new result
WritesAll-stops (Ok v) is stops = absurd (false≢true is)
WritesAll-stops (Err e) is stops = stops

-- and on the last of those for the first of two texts
pub WritesBoth-stops : {O T E : Type 0} {gives : O → List ℕ → Result ℕ Failed → O → Type 0} {old new : O} {first : List ℕ} (second : List ℕ) (result : Result T E) → IsErr result → Stops gives old first new → WritesBoth gives old first second new result
WritesBoth-stops second (Ok v) is stops = absurd (false≢true is)
WritesBoth-stops second (Err e) is stops = inl stops

-- a text, and then another one
pub WritesBoth-then : {O T E : Type 0} {gives : O → List ℕ → Result ℕ Failed → O → Type 0} {old mid : O} (new : O) {first : List ℕ} (second : List ℕ) (result : Result T E) → Writes gives old first mid [] → WritesAll gives mid second new result → WritesBoth gives old first second new result
WritesBoth-then {mid = mid} new second (Ok v) begun all = (mid, begun, all)
WritesBoth-then {mid = mid} new second (Err e) begun stops = inr (mid, begun, stops)

-- a text was passed on, and then another one
pub Gathers-then : {S D T E : Type 0} {old mid new : Option (List ℕ)} {held holds keeps first second : List ℕ} {v : S} {result : Result T E} → Gathers {T = S} {E = D} old held mid holds first (Ok v) → Gathers mid holds new keeps second result → Gathers old held new keeps (first ++ second) result
Gathers-then {result = Ok w} p q = record { passed = PassesOn-then p.passed q.passed; front = tt }
Gathers-then {second = second} {result = Err e} p q = record { passed = tt; front = AppendsFront-then second p.passed q.front }

-- a text was passed on, and then all that is held is put
pub Gathers-Puts : {S D T E : Type 0} {old mid new : Option (List ℕ)} {held holds text : List ℕ} {v : S} {result : Result T E} → Gathers {T = S} {E = D} old held mid holds text (Ok v) → Puts mid new holds result → Puts old new (held ++ text) result
Gathers-Puts {old = old} {new = new} {result = result} p q =
    subst (λ zs. Puts old new zs result) p.passed.rest (Puts-after old p.passed.sent p.passed.written q)

-- all of what was held and then a text is put, and nothing is held
pub Gathers-put : {T E : Type 0} {old new : Option (List ℕ)} (held text : List ℕ) {result : Result T E} → Puts old new (held ++ text) result → Gathers old held new [] text result
Gathers-put held text {result = Ok v} p =
    record { passed = record { sent = held ++ text; written = p.all; rest = append-nil (held ++ text) }; front = tt }
Gathers-put held text {result = Err e} p = record { passed = tt; front = p.front }

-- the exit of a `?`
pub Gathers-err : {T E U F : Type 0} {old new : Option (List ℕ)} {held holds keeps text : List ℕ} {e : E} (result : Result U F) → IsErr result → Gathers {T = T} old held new holds text (Err e) → Gathers old held new keeps text result
Gathers-err (Ok v) is p = absurd (false≢true is)
Gathers-err (Err d) is p = record { passed = tt; front = p.front }

-- the exit of a `?` where more was to follow
pub Gathers-more : {T E : Type 0} {old new : Option (List ℕ)} {held holds text : List ℕ} {e : E} (more : List ℕ) → Gathers {T = T} old held new holds text (Err e) → Gathers {T = T} old held new holds (text ++ more) (Err e)
Gathers-more {old = old} {new = new} {held = held} {text = text} more p = record {
  passed = tt;
  front = subst (AppendsPrefix old new) (append_assoc held text more) (AppendsFront-more more p.front);
}

-- a failed call wrote a prefix of all that it had
pub Gathers-failed : {T E : Type 0} {old new : Option (List ℕ)} {held holds text : List ℕ} {e : E} → Gathers {T = T} old held new holds text (Err e) → Puts {T = T} old new (held ++ text) (Err e)
Gathers-failed p = record { all = tt; front = p.front }

-- before the first call
pub Gathers-start : {T E : Type 0} {v : T} (known : Option (List ℕ)) (held : List ℕ) → Gathers {E = E} known held known held [] (Ok v)
Gathers-start known held = record { passed = PassesOn-start known held; front = tt }
