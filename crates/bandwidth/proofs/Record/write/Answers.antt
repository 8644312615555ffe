use Rattle.bandwidth_model.specs.Calls.{write}
use Rattle.bandwidth.proofs.Calls.{call_failed, write_refused, write_done}
use Rattle.bandwidth.proofs.Record.write.Goals as goal

pub returns-in-Err : goal.returns-in-Err
returns-in-Err c = rw c.refused.ensures (call_failed _ (write _ _ _) tt _ c.in-Err.ensures)

pub returns-in-Err-check_write : goal.returns-in-Err-check_write
returns-in-Err-check_write c =
    rw c.refused-in-Err-check_write.ensures (write_refused c.in-Ok.ensures _ _ _ _ c.in-Err-check_write.ensures)

pub returns : goal.returns
returns c =
    rw c.answered.ensures (write_done c.in-Ok.ensures _ _ _ _ c.in_default.ensures c.store.ensures)
