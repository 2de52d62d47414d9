-- Lines of pieces, one after another.
use Rattle.std.proofs.Common.{◌≡◌, ℕ, zero, suc, ◌+◌, ◌<◌, List, [], ◌∷◌, ◌++◌, length, take, drop, get_or, Option, Some, refl, sym, ap, ◌∙◌, subst, append_assoc, append-nil, add-one}
use Rattle.std.specs.Prelude.{slice_get}
use Rattle.std.specs.List.{flat_map}
use Rattle.std.proofs.lemmas.List.{take-append-drop}
use Rattle.std.proofs.lemmas.List.Folds.{flat_map-map}
use Rattle.std.proofs.lemmas.Grind.{flat_map-append}
use Rattle.std.proofs.lemmas.Option.{slice_get_read}
use Rattle.graph_types.specs.declared.member.Member.{Member}
use Rattle.graph_types.specs.meaning.Piece.{PieceValue, members_of_all}
use Rattle.job_io.specs.calls.Ends.{AppendsPrefix, PassesOn}
use Rattle.job_io.proofs.Gathering.{PassesOn-then, AppendsFront-then, AppendsFront-more}

module _ {A B : Type 0} (f : A → List B) where
  flat_map-take_suc : (xs : List A) (i : ℕ) (x : A) → slice_get xs i ≡ Some x → flat_map f (take (suc i) xs) ≡ flat_map f (take i xs) ++ f x
  flat_map-take_suc [] i x at = cc
  flat_map-take_suc (y ∷ ys) zero x at = append-nil (f y) ∙ ap f (let e : y ≡ x = cc in e)
  flat_map-take_suc (y ∷ ys) (suc i) x at = ap (λ zs. f y ++ zs) (flat_map-take_suc ys i x at) ∙ sym (append_assoc (f y) _ (f x))

  -- one item more of a list
  flat_map-take_more : (xs : List A) (i : ℕ) (x : A) → slice_get xs i ≡ Some x → flat_map f (take (i + 1) xs) ≡ flat_map f (take i xs) ++ f x
  flat_map-take_more xs i x at = rw add-one (flat_map-take_suc xs i x at)

module _ (line_with : List Member → List ℕ) where
  abbrev line_of : PieceValue → List ℕ
  line_of p = line_with p.members

  -- the lines of these pieces
  abbrev text_of : List PieceValue → List ℕ
  text_of pieces = flat_map line_with (members_of_all pieces)

  lines_each : (pieces : List PieceValue) → text_of pieces ≡ flat_map line_of pieces
  lines_each = flat_map-map line_with (λ (p : PieceValue). p.members)

  -- one line more
  lines-more : (pieces : List PieceValue) (i : ℕ) (p : PieceValue) → i < length pieces → p ≡ get_or pieces i p →
      text_of (take (i + 1) pieces) ≡ text_of (take i pieces) ++ line_of p
  lines-more pieces i p within is =
      lines_each (take (i + 1) pieces) ∙ flat_map-take_more line_of pieces i p (slice_get_read pieces (length pieces) i p refl within is)
      ∙ ap (λ text. text ++ line_of p) (sym (lines_each (take i pieces)))

  -- the first lines, and those after them
  lines-split : (pieces : List PieceValue) (n : ℕ) → text_of pieces ≡ text_of (take n pieces) ++ text_of (drop n pieces)
  lines-split pieces n =
      lines_each pieces ∙ sym (ap (flat_map line_of) (take-append-drop n pieces)) ∙ flat_map-append line_of (take n pieces) (drop n pieces)
      ∙ ap (λ text. text ++ flat_map line_of (drop n pieces)) (sym (lines_each (take n pieces)))
      ∙ ap (λ text. text_of (take n pieces) ++ text) (sym (lines_each (drop n pieces)))

  -- the line at a place was passed on
  pub passed-more : (pieces : List PieceValue) (i : ℕ) (p : PieceValue) (line : List ℕ) (old mid new : Option (List ℕ)) (held holds keeps : List ℕ) → i < length pieces → p ≡ get_or pieces i p →
      line ≡ line_with p.members → PassesOn old held mid holds (text_of (take i pieces)) → PassesOn mid holds new keeps line →
      PassesOn old held new keeps (text_of (take (i + 1) pieces))
  passed-more pieces i p line old mid new held holds keeps within is line_is so_far next =
      subst (PassesOn old held new keeps) (ap (λ xs. text_of (take i pieces) ++ xs) line_is ∙ sym (lines-more pieces i p within is)) (PassesOn-then so_far next)

  -- the line at a place could not be passed on
  pub fails-at : (pieces : List PieceValue) (i : ℕ) (p : PieceValue) (line : List ℕ) (old mid new : Option (List ℕ)) (held holds : List ℕ) → i < length pieces → p ≡ get_or pieces i p →
      line ≡ line_with p.members → PassesOn old held mid holds (text_of (take i pieces)) → AppendsPrefix mid new (holds ++ line) →
      AppendsPrefix old new (held ++ text_of pieces)
  fails-at pieces i p line old mid new held holds within is line_is so_far front =
      let first = text_of (take (i + 1) pieces) in
      let rest = text_of (drop (i + 1) pieces) in
      let at_line : AppendsPrefix old new (held ++ first) =
      subst (λ text. AppendsPrefix old new (held ++ text)) (ap (λ xs. text_of (take i pieces) ++ xs) line_is ∙ sym (lines-more pieces i p within is))
      (AppendsFront-then line so_far front) in
      subst (AppendsPrefix old new) (append_assoc held first rest ∙ ap (λ text. held ++ text) (sym (lines-split pieces (i + 1)))) (AppendsFront-more rest at_line)
