use Rattle.bandwidth_model.specs.Rules.{weight_of}
use Rattle.bandwidth_waiters.proofs.Steps.{weight_steps}
use Rattle.bandwidth_waiters.proofs.weight_by.Goals as goal

pub returns : goal.returns
unfolding weight_of
returns c = weight_steps _ _ _ _ _ _ c.from_reservation-own.ensures c.field.ensures c.pick.ensures
