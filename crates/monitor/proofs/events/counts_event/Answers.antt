use Rattle.codes.specs.Codes.{bandwidth_events, capacity_events}
use Rattle.codes.proofs.Rows.{single_test}
use Rattle.monitor.specs.Monitor.{counts_event}
use Rattle.monitor.proofs.events.counts_event.Goals as goal

pub returns-in-Bandwidth : goal.returns-in-Bandwidth
unfolding counts_event bandwidth_events
returns-in-Bandwidth c = rw (c.in-Bandwidth.is, single_test 1 _, single_test 2 _, single_test 3 _)

pub returns-in-Capacity : goal.returns-in-Capacity
unfolding counts_event capacity_events
returns-in-Capacity c = rw c.in-Capacity.is (single_test 1 _)
