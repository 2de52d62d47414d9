use Rattle.std.proofs.Common.{◌≡◌, ap, subst, sym, ◌∙◌, IfOk}
use Rattle.graph_types.specs.declared.pair.Pair.{Pair}
use Rattle.graph_types.specs.meaning.Neighbourhood.{kept_among}
use Rattle.shard_state.specs.meaning.Shards.{pair_of_vertex}
use Rattle.shard_state.specs.storage.KeyedCells.{cells_of}
use Rattle.shard_state.proofs.PairsTold.{pair-of_cell, pair-without_cell}
use Rattle.shard_state.proofs.shard.Shard.pair_among.Goals as goal

pub returns-in-Some : goal.returns-in-Some
returns-in-Some c =
    let s = c.self.inside in
    subst (λ (p : Pair). IfOk c.pair_among.result (λ pair. pair ≡ kept_among c.args.among.now p))
    (pair-of_cell s.class.number s.class.shards s.upto s.floor (cells_of s.class s.cells) c.args.v c.in-Some.cell.now (sym c.in-Some.ensures) c.args.t ∙ ap (λ shard. pair_of_vertex shard c.args.v c.args.t) c.self.view_is)
    c.pair_among.ensures

pub returns-in-None : goal.returns-in-None
returns-in-None c =
    let s = c.self.inside in
    c.nothing.ensures
    ∙ ap (kept_among c.args.among.now)
    (pair-without_cell s.class.number s.class.shards s.upto s.floor (cells_of s.class s.cells) c.args.v c.args.t (sym c.in-None.ensures)
    ∙ ap (λ shard. pair_of_vertex shard c.args.v c.args.t) c.self.view_is)
