use Rattle.bandwidth_wellformed.specs.Bits.{absent}
use Rattle.bandwidth_wellformed.proofs.rows.absent_of.Goals as goal

pub returns : goal.returns
unfolding absent
returns c = cc
