use Rattle.std.proofs.Common.{◌≡◌, ap, subst, sym, ◌∙◌, IfOk}
use Rattle.graph_types.specs.declared.pair.Pair.{Pair}
use Rattle.shard_state.specs.meaning.Shards.{pair_of_vertex}
use Rattle.shard_state.specs.storage.KeyedCells.{cells_of}
use Rattle.shard_state.proofs.PairsTold.{pair-of_cell, pair-without_cell}
use Rattle.shard_state.proofs.shard.Shard.pair.Goals as goal

pub returns-in-Some : goal.returns-in-Some
returns-in-Some c =
    let s = c.self.inside in
    subst (λ (p : Pair). IfOk c.pair.result (λ pair. pair ≡ p))
    (pair-of_cell s.class.number s.class.shards s.upto s.floor (cells_of s.class s.cells) c.args.v c.in-Some.cell.now (sym c.in-Some.ensures) c.args.t ∙ ap (λ shard. pair_of_vertex shard c.args.v c.args.t) c.self.view_is)
    c.pair.ensures

pub returns-in-None : goal.returns-in-None
returns-in-None c =
    let s = c.self.inside in
    c.nothing.ensures
    ∙ pair-without_cell s.class.number s.class.shards s.upto s.floor (cells_of s.class s.cells) c.args.v c.args.t (sym c.in-None.ensures)
    ∙ ap (λ shard. pair_of_vertex shard c.args.v c.args.t) c.self.view_is
