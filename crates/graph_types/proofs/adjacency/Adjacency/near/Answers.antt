use Rattle.std.proofs.Common.{◌≡◌, ℕ, ap, sym, subst, ◌∙◌}
use Rattle.std.specs.Ordering.{nat_cmp}
use Rattle.std.specs.FinMap as map
use Rattle.std.specs.Option.{is_some, option_and_then}
use Rattle.std.proofs.lemmas.Result.{IfOk-weaker}
use Rattle.graph_types.specs.storage.Adjacency.{Lists}
use Rattle.graph_types.specs.meaning.Graph.{has_edge}
use Rattle.graph_types.proofs.Listing.{Lists-keys, Lists-alike, Lists-nothing}
use Rattle.graph_types.proofs.Rows.{get-edges}
use Rattle.graph_types.proofs.adjacency.Adjacency.near.Goals as goal

pub returns-in-Some : goal.returns-in-Some
returns-in-Some c =
    let near = c.in-Some.vertex.now.near in
    let there : (w : ℕ) → map.contains_key near w ≡ has_edge c.args.self.now (c.args.v, w) = λ w.
    ap (λ row. is_some (option_and_then (λ r. map.get r.near w) row)) (c.in-Some.ensures ∙ ap (map.get c.self.inside.rows) c.v.view_is)
    ∙ ap is_some (sym (get-edges _ c.args.v w))
    ∙ ap (λ g. has_edge g (c.args.v, w)) c.self.view_is in
    IfOk-weaker c.list.result _ _ (λ ws is. subst (Lists nat_cmp (λ w. has_edge c.args.self.now (c.args.v, w))) (sym is) (Lists-alike (map.contains_key near) _ (map.keys near) there (Lists-keys near))) c.list.ensures

pub returns-in-None : goal.returns-in-None
returns-in-None c =
    subst (Lists nat_cmp (λ w. has_edge c.args.self.now (c.args.v, w))) (sym c.new.ensures)
    (Lists-nothing _ (λ w.
    ap (λ row. is_some (option_and_then (λ r. map.get r.near w) row)) (c.in-None.ensures ∙ ap (map.get c.self.inside.rows) c.v.view_is)
    ∙ ap is_some (sym (get-edges _ c.args.v w))
    ∙ ap (λ g. has_edge g (c.args.v, w)) c.self.view_is))
