-- The picture that some members have in the picture of more members is theirs in the whole graph.
use Rattle.std.proofs.Common.{◌≡◌, ℕ, Bool, IsTrue, List, subst, ⊎_elim}
use Rattle.std.specs.Cmp.{nat_cmp_total}
use Rattle.std.specs.FinMap as finite
use Rattle.std.specs.List.{All, list_any}
use Rattle.std.proofs.lemmas.Bool.{and_parts, and_from, or_cases, or_left, or_right}
use Rattle.graph_types.specs.meaning.Graph.{Graph}
use Rattle.graph_types.specs.meaning.Orders.{pair_cmp_total}
use Rattle.graph_types.specs.meaning.Piece.{IsOfMode, member_eq}
use Rattle.graph_types.specs.declared.ids.Mode.{Mode}
use Rattle.graph_types.specs.declared.member.Member.{Member}
use Rattle.graph_types.specs.declared.member.Member.TheVariants as member
use Rattle.graph_types.proofs.Graph.{pair_cmp-IsAntisymmetric}
use Rattle.mining_model.specs.meaning.Picture.{picture, touches, has_member, is_drawn}
use Rattle.conditions.specs.declared.condition.Cond.{Cond}
use Rattle.conditions.specs.meaning.Conditions.{holds}
use Rattle.filter_polarity.specs.meaning.Polarity.{is_falling}
use Rattle.filter_polarity.proofs.Passing.{falling_passes}
use Rattle.shared_lemmas.specs.meaning.Membership.{IsIn}
use Rattle.shared_lemmas.proofs.FiniteMaps.{retain_keys-again}
use Rattle.shared_lemmas.proofs.Membership.{list_any_at, list_any_place}

module _ (g : Graph) (members some : List Member) (within : (m : Member) → IsIn m some → IsIn m members) where
  any_within : (p : Member → Bool) → IsTrue (list_any p some) → IsTrue (list_any p members)
  any_within p h = let place = list_any_place p some h in list_any_at p place.0 members (within place.0 place.1) place.2

  drawn_within : (e : ℕ × ℕ) → IsTrue (is_drawn some e) → IsTrue (is_drawn members e)
  drawn_within e h =
      ⊎_elim (λ t. or_left _ _ (any_within (member_eq (member.Edge e)) t))
      (λ t. let ends = and_parts _ _ t in
      or_right (has_member members (member.Edge e)) _ (and_from _ _ (any_within (member_eq (member.Vertex e.0)) ends.0) (any_within (member_eq (member.Vertex e.1)) ends.1)))
      (or_cases _ _ h)

  pub picture-picture : picture (picture g members) some ≡ picture g some
  picture-picture =
      let labels = retain_keys-again nat_cmp_total finite.nat_cmp-IsAntisymmetric g.labels (λ v. list_any (touches v) members) (λ v. list_any (touches v) some) (λ v. any_within (touches v)) in
      let edges = retain_keys-again pair_cmp_total pair_cmp-IsAntisymmetric g.edges (is_drawn members) (is_drawn some) drawn_within in
      λ i. record { labels = labels i; edges = edges i }

  pub falling_passes_down : (kind : Mode) (c : Cond) → IsTrue (is_falling kind c) → All (IsOfMode kind) some → IsTrue (holds c (picture g members)) → IsTrue (holds c (picture g some))
  falling_passes_down kind c falls all h = subst (λ q. IsTrue (holds c q)) picture-picture (falling_passes kind (picture g members) some all c falls h)
