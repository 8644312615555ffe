use Rattle.bandwidth_grants.proofs.Steps.{give_fits, give_steps}
use Rattle.bandwidth_grants.proofs.give.Goals as goal

pub spend-pool-requires : goal.spend-pool-requires
spend-pool-requires c =
    let h = c.before in
    give_fits h.holder_of-holder.ensures c.grant_of-grant.ensures h.requires

pub returns : goal.returns
returns c =
    let g = c.before in
    give_steps g.holder_of-holder.ensures g.grant_of-grant.ensures (c.spend-pool.ensures _)
