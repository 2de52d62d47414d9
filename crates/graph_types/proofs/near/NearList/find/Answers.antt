use Rattle.std.proofs.Common.{rules, sym, subst}
use Rattle.std.proofs.lemmas.List.Sorted.{answers_always}
use Rattle.graph_types.specs.calls.Finding.{FindsNear}
use Rattle.graph_types.proofs.Finding.{none-found, one-found}
use Rattle.graph_types.proofs.near.NearList.find.Goals as goal

-- the closure gives a neighbour's vertex, and the slice is the list
pub returns-in-Ok : goal.returns-in-Ok
returns-in-Ok c =
    let by_vertex = c.in-Ok.ensures.position (λ near. near.to) (answers_always _ _ _ (λ f a r g called. search rules)) in
    subst (FindsNear c.args.to c.args.self.now) (sym c.get.ensures)
    (one-found c.args.to c.args.self.now c.requires c.in-Ok.place (rw c.as_slice.ensures at c.in-Ok.ensures.bound) (rw c.as_slice.ensures at by_vertex))

pub returns-in-Err : goal.returns-in-Err
returns-in-Err c =
    let by_vertex = c.in-Err.ensures.position (λ near. near.to) (answers_always _ _ _ (λ f a r g called. search rules)) in
    none-found c.args.to c.args.self.now c.requires c.in-Err.field-0 (rw c.as_slice.ensures at by_vertex)
