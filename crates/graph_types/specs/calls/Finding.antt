-- What a look-up among neighbours answers.
use Rattle.std.specs.Prelude.{◌≡◌, ℕ, IsFalse, List, Option, None, Some, eqb}
use Rattle.std.specs.List.{list_any}
use Rattle.shared_lemmas.specs.meaning.Membership.{IsIn}
use Rattle.graph_types.specs.declared.near.Near.{Near}
use Rattle.graph_types.specs.storage.Ahead.{near_ends}

-- it is one of the neighbours, and is this vertex; or none of them is
abbrev pub FindsNear : ℕ → List Near → Option Near → Type 0
FindsNear to near (Some found) = IsIn found near × (found.to ≡ to)
FindsNear to near None = IsFalse (list_any (eqb to) (near_ends near))
