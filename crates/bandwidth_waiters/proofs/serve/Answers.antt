use Rattle.bandwidth_grants.specs.View.{holder_from}
use Rattle.bandwidth_waiters.proofs.Steps.{serve_fits, serve_steps}
use Rattle.bandwidth_waiters.proofs.serve.Goals as goal

pub spend-pool-requires : goal.spend-pool-requires
spend-pool-requires c =
    let h = c.before in
    serve_fits c.served_of-grant.ensures h.requires (holder_from h.holder_of-holder.result)

pub returns : goal.returns
returns c =
    let g = c.before in
    let w = g.before in
    serve_steps _ _ _ _ w.holder_of-holder.ensures w.held_word.ensures g.served_of-grant.ensures (c.spend-pool.ensures _)
