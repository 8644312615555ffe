use Rattle.monitor.proofs.Steps.{status_of_lem}
use Rattle.monitor.proofs.status.mon_status.Goals as goal

pub returns : goal.returns
returns c =
    let e = c.before in
    let a = e.before in
    status_of_lem _ _ _ a.unpack_held-ctl.ensures _ _ _ _ _ a.at_status.ensures e.event_status.ensures c.op_status.ensures
