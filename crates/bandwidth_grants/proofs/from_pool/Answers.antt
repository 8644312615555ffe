use Rattle.bandwidth_model.specs.Rules.{weight_of}
use Rattle.bandwidth_grants.proofs.Steps.{pool_steps}
use Rattle.bandwidth_grants.proofs.from_pool.Goals as goal

pub returns : goal.returns
unfolding weight_of
returns c =
    let f = c.before in
    pool_steps _ _ _ _ _ _ _ _ _ _ _ f.saturating_sub.ensures f.field.ensures c.saturating_sub-2.ensures c.min.ensures c.pick.ensures
