-- Tests.
use Rattle.std.proofs.Common.{◌≡◌, Bool, true, false, ◌&&◌, ◌||◌, cond, Option, None, Some, refl}
use Rattle.std.specs.Option.{is_some}
use Rattle.std.specs.Prelude.{T}
use Rattle.std.proofs.lemmas.Bool.{true≢false}

-- the two ways to say that a test is passed
pub true_of : (b : Bool) → T b → b ≡ true
true_of true h = refl
true_of false h = absurd h

pub or_swap : (a b c : Bool) → (a || (b || c)) ≡ (b || (a || c))
or_swap true true c = refl
or_swap true false c = refl
or_swap false b c = refl

pub or_twice : (a c : Bool) → (a || c) ≡ (a || (a || c))
or_twice true c = refl
or_twice false c = refl

pub or_last : (a b c : Bool) → (b || (a || c)) ≡ ((a || b) || c)
or_last true true c = refl
or_last true false c = refl
or_last false true c = refl
or_last false false c = refl

-- where the value is kept by a test, and where it is dropped by one
pub is_some-kept : {X : Type 0} (b : Bool) (o : Option X) → is_some (cond b o None) ≡ (b && is_some o)
is_some-kept true o = refl
is_some-kept false o = refl

-- where a look-up tells that nothing is there, nothing is
pub none_from : {X : Type 0} (o : Option X) → is_some o ≡ false → o ≡ None
none_from None e = refl
none_from (Some x) e = absurd (true≢false e)
