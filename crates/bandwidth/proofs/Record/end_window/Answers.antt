use Rattle.bandwidth_model.specs.Calls.{end_window}
use Rattle.bandwidth.proofs.Calls.{call_failed, end_done}
use Rattle.bandwidth.proofs.Record.end_window.Goals as goal

pub returns-in-Err : goal.returns-in-Err
returns-in-Err c = rw c.refused.ensures (call_failed _ end_window tt _ c.in-Err.ensures)

pub returns : goal.returns
returns c = rw c.answered.ensures (end_done c.in-Ok.ensures _ c.open_window.ensures)
