use Rattle.codes.proofs.Rows.{single_test}
use Rattle.monitor.proofs.events.stops.Goals as goal

pub returns : goal.returns
returns c = single_test 0 _
