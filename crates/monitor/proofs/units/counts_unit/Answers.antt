use Rattle.monitor.specs.Monitor.{counts_event}
use Rattle.monitor.specs.Occupancy.{counts_unit}
use Rattle.monitor.proofs.units.counts_unit.Goals as goal

pub returns : goal.returns
unfolding counts_unit counts_event
returns c = cc
