use Rattle.std.proofs.Common.{arith}
use Rattle.rehearsal.proofs.Showing.{holds-it}
use Rattle.rehearsal.proofs.machine.Machine.put_pruned.Goals as goal

pub index_mut-requires : goal.index_mut-requires
index_mut-requires c =
    let within = (c.requires.sound.1.behind c.args.s (holds-it c.args.self.now.watch c.args.s c.requires.may)).0 in
    omega (arith, within, c.args.self.now.shards.ok.0)
