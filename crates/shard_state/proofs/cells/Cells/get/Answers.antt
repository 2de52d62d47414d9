use Rattle.std.proofs.Common.{ap, sym, ◌∙◌, arith}
use Rattle.std.specs.FinMap as map
use Rattle.std.proofs.lemmas.Bool.Decides.{nat_tests}
use Rattle.shard_state.specs.storage.KeyedCells.{Owns, cells_of}
use Rattle.shard_state.proofs.CellKeys.{get-foreign}
use Rattle.shard_state.proofs.CellSteps.{get-at_key}
use Rattle.shard_state.proofs.cells.Cells.get.Goals as goal

pub returns-then-not-has : goal.returns-then-not-has
returns-then-not-has c = sym (get-foreign c.args.class c.args.self.now c.args.v (sym c.has.ensures ∙ c.if-not-has.true))

pub returns : goal.returns
returns c =
    let own : Owns c.args.class c.args.v = grind (arith, nat_tests, c.has.ensures) in
    c.get.ensures
    ∙ sym (get-at_key c.args.class c.self.inside.items c.args.v c.key.result own c.key.ensures)
    ∙ ap (λ m. map.get (cells_of c.args.class m) c.args.v) c.self.view_is
