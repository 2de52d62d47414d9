-- A vector in which an item is set to what it was.
use native.Mathlib.Nat.{ℕ_set}
use Rattle.std.proofs.Common.{◌≡◌, ℕ, List, length, get_or, sym, ap, subst, ◌∙◌}
use Rattle.std.proofs.lemmas.List.{set-get_or}
use Rattle.std.specs.Vec.{with_item}
use Rattle.std.specs.declared.vec.Vec.{Vec}

module _ {X Z : Type 0} (v : Vec X Z) where
  abbrev with_all : (ys : List X) → v.len ≡ length ys → Vec X Z
  with_all ys len = record { ptr = v.ptr; len = v.len; cap = v.cap; alloc = v.alloc; items = ys; ok = (len, v.ok.1); small = v.small }

  -- it has the same items, so it is the same
  same-vec : (ys : List X) → v.items ≡ ys → (len : v.len ≡ length ys) → with_all ys len ≡ v
  same-vec ys same =
      subst (λ (zs : List X). (len : v.len ≡ length zs) → with_all zs len ≡ v) same
      (λ len. ap (with_all v.items) (ℕ_set v.len (length v.items) len v.ok.0))

  pub same-item : (i : ℕ) (x d : X) → x ≡ get_or v.items i d → with_item v i x ≡ v
  same-item i x d is = ap (with_item v i) is ∙ same-vec _ (sym (set-get_or v.items i d)) _
