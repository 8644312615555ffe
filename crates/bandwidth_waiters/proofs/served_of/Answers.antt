use Rattle.bandwidth_waiters.proofs.Steps.{served_steps}
use Rattle.bandwidth_waiters.proofs.served_of.Goals as goal

pub returns : goal.returns
returns c =
    let w = c.before in
    served_steps _ _ _ _ _ _ _ _ _ w.from_reservation-own.ensures w.weight_by-weight.ensures c.share.ensures c.min.ensures
