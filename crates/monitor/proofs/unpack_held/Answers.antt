use Rattle.monitor.proofs.Steps.{held_fields}
use Rattle.monitor.proofs.unpack_held.Goals as goal

pub returns : goal.returns
returns c = held_fields _ _ _ _ c.unpack.ensures c.held.ensures
