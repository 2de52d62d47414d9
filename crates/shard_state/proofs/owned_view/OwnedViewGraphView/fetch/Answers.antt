use Rattle.std.proofs.Common.{◌<◌, ap, subst, sym, ◌∙◌}
use Rattle.graph_types.specs.meaning.Neighbourhood.{pair_in}
use Rattle.shard_state.specs.meaning.Joining.{shard_of_vertex}
use Rattle.shard_state.specs.meaning.Shards.{pair_of_vertex}
use Rattle.shard_state.proofs.Joined.{pair-joined, shard-among}
use Rattle.shared_lemmas.proofs.Membership.{all-at}
use Rattle.shard_state.proofs.owned_view.OwnedViewGraphView.fetch.Goals as goal

pub pair-requires : goal.pair-requires
pair-requires c =
    let s = c.self.inside in
    let shards = s.shards.now in
    subst (λ shard. shard.floor < s.at) (sym c.shard_of.ensures)
    (all-at (λ shard. shard.floor < s.at) (shard_of_vertex shards c.args.v) shards c.self.invariant.floors (shard-among shards c.args.v c.self.invariant.some))

pub returns-clause-pair : goal.returns-clause-pair
returns-clause-pair c =
    let s = c.self.inside in
    c.in_ok-pair.ensures
    ∙ ap (λ shard. pair_of_vertex shard c.args.v s.at) c.shard_of.ensures
    ∙ pair-joined s.shards.now s.at c.self.invariant.before c.self.invariant.after c.args.v
    ∙ ap (λ g. pair_in g.before g.after c.args.v) c.self.view_is
