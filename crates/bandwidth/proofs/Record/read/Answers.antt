use Rattle.bandwidth_model.specs.Calls.{read}
use Rattle.bandwidth.proofs.Calls.{call_failed}
use Rattle.bandwidth.proofs.Record.read.Goals as goal

pub returns-in-Err : goal.returns-in-Err
returns-in-Err c = rw c.refused.ensures (call_failed _ (read _ _) tt _ c.in-Err.ensures)

pub returns : goal.returns
returns c = c.reading.ensures _ _ _ _ _ _ _ c.in_default.ensures
