use Rattle.capacity_model.specs.Calls.{read}
use Rattle.capacity.proofs.Checks.{passes}
use Rattle.capacity.proofs.Calls.{call_failed}
use Rattle.capacity.proofs.Record.read.Goals as goal

pub returns-in-Err : goal.returns-in-Err
returns-in-Err c = rw c.refused.ensures (call_failed _ (read _ _) tt _ c.in-Err.ensures)

pub reading-requires : goal.reading-requires
reading-requires c = (passes _ c.in_default.ensures).ranges

pub returns : goal.returns
returns c = c.reading.ensures _ _ _ _ c.in_default.ensures
